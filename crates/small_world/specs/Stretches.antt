-- The stretches of a run: one for each mark, of the lines after it up to the next mark.
use Rattle.std.specs.Prelude.{ℕ, ◌+◌, ◌&&◌, nat_le, Bool, true, false, not, List, [], ◌∷◌, if◌then◌else◌, Option, Some, None}
use Rattle.iot_schedule.specs.declared.types.Line.{Line}
use Rattle.iot_schedule.specs.declared.types.Line.TheVariants as line
use Rattle.small_world.specs.Worlds.{SmallWorld, Plan}
use Rattle.small_world.specs.Runs.{Turn, steps_card, world_after}

-- What a line of a run did, as far as the chip's counts go: whether it was lost, whether it began
-- under no plan or one that is far, made a mark, is one that may cost chip calls, and plans a cut.
pub record Fate : Type 0 where
  pub lost : Bool
  pub unplanned : Bool
  pub marked : Bool
  pub costly : Bool
  pub planned : Bool

-- No cut is planned, or it won't come within 10,000 calls.
abbrev pub is_far : Option Plan → Bool
is_far None = true
is_far (Some plan) = nat_le 10000 plan.0

-- The line may step the card.
unfoldable pub is_costly : Line → Bool
is_costly (line.Initial id address key) = true
is_costly (line.Down pick good) = true
is_costly (line.Load good bytes) = true
is_costly line.Push = true
is_costly (line.Probe passed) = true
is_costly line.Rollback = true
is_costly line.Boot = true
is_costly l = false

-- The line plans a cut.
unfoldable pub is_cut : Line → Bool
is_cut (line.Cut calls tear) = true
is_cut l = false

unfoldable pub fate_of : SmallWorld → Turn → Fate
fate_of w t = record {
  lost = t.lost;
  unplanned = is_far w.plan;
  marked = steps_card w t.line && not t.lost;
  costly = is_costly t.line;
  planned = is_cut t.line;
}

-- What the lines of a run did, the newest first.
unfoldable pub fates : SmallWorld → List Turn → List Fate
fates start [] = []
fates start (t ∷ ts) = fate_of (world_after start ts) t ∷ fates start ts

-- A line joins the open stretch; one that made a mark ends it and opens the next.
unfoldable pub stretched : Fate → List (List Fate) → List (List Fate)
stretched f [] = []
stretched f (s ∷ ss) = if f.marked then [] ∷ (f ∷ s) ∷ ss else (f ∷ s) ∷ ss

-- The stretches, the open one first, and in each its lines, the newest first.
unfoldable pub stretches : List Fate → List (List Fate)
stretches [] = [] ∷ []
stretches (f ∷ fs) = stretched f (stretches fs)

-- How many of the lines pass.
unfoldable pub count_fates : (Fate → Bool) → List Fate → ℕ
count_fates test [] = 0
count_fates test (f ∷ fs) = if test f then count_fates test fs + 1 else count_fates test fs
