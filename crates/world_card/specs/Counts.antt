-- What a line of a schedule does to the counts of its bench, by what the line did.
use Rattle.std.specs.Prelude.{◌≡◌, ◌⊎◌, ℕ, ◌+◌, ◌≤◌, Bool, true, false, if◌then◌else◌}
use Rattle.iot_bytes.specs.Causes.{Rose}
use Rattle.chip_port.specs.Seen.{Seen, Marks, up}
use Rattle.small_world.specs.Stretches.{Fate}

-- what was marked at the answers so far stays
abbrev pub KeepsPast : Marks → Marks → Type 0
KeepsPast old new = (n : ℕ) → n ≤ old.answers → (new.cuts_at n ≡ old.cuts_at n) × (new.breaks_at n ≡ old.breaks_at n) × (new.woke n ≡ old.woke n)

-- the counts are still those of the newest answer
pub record IsMarkedNow (s : Seen) : Type 0 where
  pub cuts : s.marks.cuts_at s.marks.answers ≡ s.tally.cuts
  pub breaks : s.marks.breaks_at s.marks.answers ≡ s.tally.breaks

-- why a step was lost: a call failed, by a cut or a break; where no plan was near, by a break
pub record HasLost (far : Bool) (s t : Seen) : Type 0 where
  pub fault : Rose s.faults t.faults
  pub cause : Rose s.tally.cuts t.tally.cuts ⊎ Rose s.tally.breaks t.tally.breaks
  pub early : far ≡ true → Rose s.tally.breaks t.tally.breaks

-- the counts before and after a line
pub record Counted (f : Fate) (s t : Seen) : Type 0 where
  pub told : t.told ≡ s.told
  pub faults : s.faults ≤ t.faults
  pub cuts : s.tally.cuts ≤ t.tally.cuts
  pub breaks : s.tally.breaks ≤ t.tally.breaks
  pub uses : s.tally.uses ≤ t.tally.uses
  pub most : t.tally.uses ≤ s.tally.uses + (if f.costly then 10000 else 0)
  pub plans : t.tally.plans ≡ (if f.planned then up s.tally.plans else s.tally.plans)
  pub lost : f.lost ≡ true → HasLost f.unplanned s t
  pub answers : t.marks.answers ≡ (if f.marked then s.marks.answers + 1 else s.marks.answers)
  pub now : f.marked ≡ true → IsMarkedNow t
  pub past : KeepsPast s.marks t.marks

-- a step that was answered, one that was lost, and one that made no mark and wasn't lost
abbrev pub answered_fate : Bool → Fate
answered_fate far = record { lost = false; unplanned = far; marked = true; costly = true; planned = false }

abbrev pub lost_fate : Bool → Fate
lost_fate far = record { lost = true; unplanned = far; marked = false; costly = true; planned = false }

abbrev pub short_fate : Bool → Fate
short_fate far = record { lost = false; unplanned = far; marked = false; costly = true; planned = false }
