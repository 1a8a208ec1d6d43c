-- How many lines of a run are lost, beside the counts of the bench. A count stands still at the end of its type.
use Rattle.std.specs.Prelude.{◌≡◌, ◌≢◌, ◌≤◌, ◌⊎◌, ℕ, ◌+◌, ◌-◌, ◌*◌, ◌^◌, min, max, ◌&&◌, List, [], ◌∷◌}
use Rattle.iot_bytes.specs.Causes.{Rose}
use Rattle.chip_port.specs.Seen.{Seen, Marks}
use Rattle.small_world.specs.Stretches.{Fate, count_fates, stretches}

-- A count that was raised so often.
abbrev pub raised : ℕ → ℕ → ℕ
raised times count = max count (min (count + times) (2 ^ 64 - 1))

-- The lost lines of a stretch, over which cuts and breaks were counted from the first two counts to the last two: they
-- are at most as many as both counts together rose by, and those that began under no plan, or one that was at least
-- 10,000 calls away, at most as many as the breaks rose by.
pub record FewLosses (stretch : List Fate) (cuts breaks cuts_now breaks_now : ℕ) : Type 0 where
  pub all : (2 ^ 64 - 1 ≤ cuts_now) ⊎ ((2 ^ 64 - 1 ≤ breaks_now) ⊎ (cuts + breaks + count_fates (λ f. f.lost) stretch ≤ cuts_now + breaks_now))
  pub early : min (breaks + count_fates (λ f. f.lost && f.unplanned) stretch) (2 ^ 64 - 1) ≤ breaks_now

-- The same of each stretch: the newest one ends now, and each began with the answer of this number, the older ones with
-- the answers before it.
abbrev pub AreFew : Marks → ℕ → ℕ → ℕ → List (List Fate) → Type 0
AreFew m answer cuts_now breaks_now [] = Unit {0}
AreFew m answer cuts_now breaks_now (stretch ∷ older) =
    FewLosses stretch (m.cuts_at answer) (m.breaks_at answer) cuts_now breaks_now × AreFew m (answer - 1) (m.cuts_at answer) (m.breaks_at answer) older

-- What the first line and these further ones, the newest first, did to the counts of a bench.
pub record AreCounted (s t : Seen) (fs : List Fate) : Type 0 where
  pub stretches_are : AreFew t.marks t.marks.answers t.tally.cuts t.tally.breaks (stretches fs)
  pub uses : t.tally.uses ≤ s.tally.uses + 10000 * (1 + count_fates (λ f. f.costly) fs)
  pub plans : t.tally.plans ≡ raised (count_fates (λ f. f.planned) fs) s.tally.plans
  pub later : s.faults ≤ t.faults
  pub lost : count_fates (λ f. f.lost) fs ≢ 0 → Rose s.faults t.faults
