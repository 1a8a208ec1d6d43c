-- How a run of one part ends.
use Rattle.std.specs.Prelude.{◌≡◌, ℕ, ◌<◌, ◌≤◌, ◌⊎◌, List, length, None}
use Rattle.std.specs.List.{AllByRecursion}
use Rattle.iot_bytes.specs.Frames.{IsTorn}
use Rattle.run_loop.specs.declared.halt.RunEnd.{RunEnd}
use Rattle.run_loop.specs.declared.reading.TheConstants.{MOST_FRAMES}
use Rattle.run_loop.specs.Breaks.{PassesLimit, IsUnfit}
use Rattle.run_loop.specs.Edges.{Edge}
use Rattle.run_loop.specs.Frames.{IsShort}
use Rattle.run_loop.specs.Runs.{Ended}
use Rattle.run_loop.specs.Status.{exit_status}
use Rattle.lone_parts.specs.Folds.{Rule, AreFolded, StopsAt}

-- A run from this state on ended, and the status says why: what was sent is the fold over the frames that were
-- answered, and where it stopped its reason holds.
pub record Ran {S : Type 0} (rule : Rule S) (s : S) (status : ℕ) (old new : Edge) : Type 0 where
  pub end : RunEnd
  pub says : status ≡ exit_status end.halt end.closing
  pub ended : Ended (AreFolded rule s) (StopsAt rule s) old new end

-- these frames are within the limits, and each is in the part's grammar
pub record AreHandled {S : Type 0} (rule : Rule S) (s : S) (fs : List (List ℕ)) : Type 0 where
  pub few : length fs ≤ MOST_FRAMES
  pub short : AllByRecursion IsShort fs
  pub text : List ℕ
  pub folded : AreFolded rule s fs text

-- behind these frames, which are in the part's grammar, this one isn't; a frame past the limit on the count isn't
-- asked
pub record IsOutside {S : Type 0} (rule : Rule S) (s : S) (fs : List (List ℕ)) (f : List ℕ) : Type 0 where
  pub few : length fs < MOST_FRAMES
  pub text : List ℕ
  pub folded : AreFolded rule s fs text
  pub unknown : rule folded.state f ≡ None

-- the status where an input stops behind these frames, and neither a call failed nor memory was wanting but for 6
pub record StopsWith {S : Type 0} (rule : Rule S) (s : S) (fs : List (List ℕ)) (tail : List ℕ) (status : ℕ) : Type 0 where
  pub torn : IsTorn tail → (status ≡ 5) ⊎ (status ≡ 6)
  pub limit : PassesLimit fs tail → (status ≡ 7) ⊎ (status ≡ 6)
  pub outside : IsUnfit (IsOutside rule s) fs tail → (status ≡ 5) ⊎ (status ≡ 6)
