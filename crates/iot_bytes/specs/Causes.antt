-- Faults of the outside, by a count that never falls.
use Rattle.std.specs.Prelude.{◌≡◌, ℕ, ◌+◌, ◌-◌, ◌^◌, ◌≤◌, min, Result, MatchResult, OnErr}

-- the count rose, or stands at its last value
abbrev pub Rose : ℕ → ℕ → Type 0
Rose before now = min (before + 1) (2 ^ 64 - 1) ≤ now

-- a failed call raised the count
pub record HasCause {T E : Type 0} (before now : ℕ) (result : Result T E) : Type 0 where
  pub monotone : before ≤ now
  pub failed : OnErr result (Rose before now)

-- each failed call counts one up to the last value of the count, and no other call counts
abbrev pub Counts : {A E : Type 0} → ℕ → ℕ → Result A E → Type 0
Counts before now result = MatchResult result (λ _. now ≡ before) (λ _. now ≡ min (before + 1) (2 ^ 64 - 1))
