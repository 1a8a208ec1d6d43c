-- What can't be handled behind frames that were.
use Rattle.std.specs.Prelude.{◌≡◌, ℕ, ◌<◌, ◌≤◌, ◌⊎◌, List, ◌++◌, length}
use Rattle.iot_bytes.specs.Frames.{frame, announced}
use Rattle.iot_bytes.specs.declared.frame.TheConstants.{FRAME_HEAD_LEN, FRAME_LIMIT}
use Rattle.run_loop.specs.declared.reading.TheConstants.{MOST_FRAMES}
use Rattle.run_loop.specs.Frames.{IsShort}

-- The octets begin with the length of a frame above the limit.
pub record IsOverLimit (octets : List ℕ) : Type 0 where
  pub head : FRAME_HEAD_LEN ≤ length octets
  pub over : FRAME_LIMIT < announced octets

-- The octets begin with a whole frame within the limit.
pub record HasFrame (octets : List ℕ) : Type 0 where
  pub first : List ℕ
  pub rest : List ℕ
  pub parts : octets ≡ frame first ++ rest
  pub short : IsShort first

-- Behind these frames one more passes a limit: on its length, or on the count.
abbrev pub PassesLimit : List (List ℕ) → List ℕ → Type 0
PassesLimit fs tail = IsOverLimit tail ⊎ ((length fs ≡ MOST_FRAMES) × HasFrame tail)

-- The octets begin with a whole frame that is unfit behind these.
pub record IsUnfit (Unfit : List (List ℕ) → List ℕ → Type 0) (fs : List (List ℕ)) (tail : List ℕ) : Type 0 where
  pub found : HasFrame tail
  pub unfit : Unfit fs found.first
