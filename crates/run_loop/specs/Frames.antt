-- What was taken of the input.
use Rattle.std.specs.Prelude.{◌≡◌, ℕ, ◌<◌, ◌≤◌, ◌⊎◌, List, [], ◌++◌, length, drop, Option, Some, Result, Ok, Err}
use Rattle.std.specs.List.{flat_map, AllByRecursion}
use Rattle.iot_bytes.specs.Frames.{frame, announced, IsTorn, IsInside, IsLeft}
use Rattle.iot_bytes.specs.declared.frame.TheConstants.{FRAME_HEAD_LEN, FRAME_LIMIT}
use Rattle.run_loop.specs.declared.reading.TheConstants.{MOST_FRAMES}
use Rattle.run_loop.specs.declared.halt.ReadStop.{ReadStop}
use Rattle.run_loop.specs.declared.halt.ReadStop.TheVariants.{End, Fault, Torn, Limit, NoMemory}

-- A frame within its limit.
abbrev pub IsShort : List ℕ → Type 0
IsShort octets = length octets ≤ FRAME_LIMIT

-- The octets of these frames, one behind the other.
abbrev pub framed : List (List ℕ) → List ℕ
framed fs = flat_map frame fs

-- These octets begin with this frame, which is within its limit, and it alone was taken.
pub record IsTaken (f octets : List ℕ) (left : Option (List ℕ)) : Type 0 where
  pub rest : List ℕ
  pub parts : octets ≡ frame f ++ rest
  pub short : IsShort f
  pub now : left ≡ Some rest

-- These octets begin with a length above the limit, and it alone was taken.
pub record IsTooLong (octets : List ℕ) (left : Option (List ℕ)) : Type 0 where
  pub head : FRAME_HEAD_LEN ≤ length octets
  pub over : FRAME_LIMIT < announced octets
  pub now : left ≡ Some (drop FRAME_HEAD_LEN octets)

-- As many frames were taken as a run may have, and one more.
abbrev pub IsOneMore : ℕ → List ℕ → Option (List ℕ) → Type 0
IsOneMore count octets left = (count ≡ MOST_FRAMES) × ((f : List ℕ) × IsTaken f octets left)

-- Why there is no further frame behind so many, and what was taken of the octets that follow them: all where the
-- input ends, less than a whole frame where the source failed, at most a length where memory is wanting.
abbrev pub NoFrame : ℕ → List ℕ → Option (List ℕ) → ReadStop → Type 0
NoFrame count octets left End = (octets ≡ []) × (left ≡ Some [])
NoFrame count octets left Fault = IsInside octets left
NoFrame count octets left Torn = IsTorn octets × (left ≡ Some [])
NoFrame count octets left Limit = IsTooLong octets left ⊎ IsOneMore count octets left
NoFrame count octets left NoMemory = IsLeft octets left FRAME_HEAD_LEN

-- The next frame behind so many, or why there is none.
abbrev pub NextFrame : ℕ → Option (List ℕ) → Option (List ℕ) → Result (List ℕ) ReadStop → Type 0
NextFrame count old now (Ok f) = (octets : List ℕ) → old ≡ Some octets → IsTaken f octets now
NextFrame count old now (Err stop) = (octets : List ℕ) → old ≡ Some octets → NoFrame count octets now stop

-- Why there is no frame behind the most frames of a run.
abbrev pub NoFurther : Option (List ℕ) → Option (List ℕ) → ReadStop → Type 0
NoFurther old now stop = (octets : List ℕ) → old ≡ Some octets → NoFrame MOST_FRAMES octets now stop

-- These frames are the front of an input that is told, each within its limit, and this holds of what follows them.
abbrev pub HasTaken : Option (List ℕ) → List (List ℕ) → (List ℕ → Type 0) → Type 0
HasTaken old fs P = (input : List ℕ) → old ≡ Some input → (tail : List ℕ) × (input ≡ framed fs ++ tail) × AllByRecursion IsShort fs × P tail
