-- Rows that have numbers: the entries of eIMs have associations, and results have sequence numbers.
use Rattle.std.specs.Prelude.{ℕ, ◌≤◌, ◌<◌, ◌&&◌, nat_le, nat_lt, Bool, List, length}
use Rattle.std.specs.List.{list_all}
use Rattle.small_card.specs.Lists.{Every, EveryPair}
use Rattle.small_card.specs.Pairs.{each_pair}
use Rattle.small_card.specs.Ranges.{IsNumber}

-- A number was given out: it is from 1 to below the next one.
pub record IsGiven (next n : ℕ) : Type 0 where
  pub some : 1 ≤ n
  pub given : n < next

-- The test of it.
abbrev pub is_given : ℕ → ℕ → Bool
is_given next n = nat_le 1 n && nat_lt n next

-- At most so many rows have numbers that were given out, each two of them are related, and the number after them is from 1.
pub record AreNumbered {X : Type 0} (most : ℕ) (number : X → ℕ) (R : X → X → Type 0) (after : ℕ) (xs : List X) : Type 0 where
  pub few : length xs ≤ most
  pub each : Every (λ x. IsGiven after (number x)) xs
  pub pairs : EveryPair R xs
  pub next : IsNumber after

-- The test of it.
unfoldable pub are_numbered : {X : Type 0} → ℕ → (X → ℕ) → (X → X → Bool) → ℕ → List X → Bool
are_numbered most number test after xs =
    nat_le (length xs) most && (nat_le 1 after && (list_all (λ x. is_given after (number x)) xs && each_pair test xs))
