-- The pending results of a store, in rising numbers below the next one.
use Rattle.std.specs.Prelude.{ℕ, ◌+◌, Bool, false, List}
use Rattle.small_card.specs.Cards.{Results}
use Rattle.small_card.specs.Numbered.{AreNumbered, are_numbered}
use Rattle.small_card.specs.Pairs.{are_rising}
use Rattle.small_card.specs.Ranges.{IsBefore}
use Rattle.small_card.specs.declared.types.Item.{Item}
use Rattle.small_card.specs.declared.types.PackageResult.{PackageResult}
use Rattle.small_card.specs.declared.limits.TheConstants.{MOST_PENDING}

-- At most 8 results are pending, in rising numbers that were given out, and the next number is from 1.
abbrev pub IsStore : Results → Type 0
IsStore rs = AreNumbered MOST_PENDING (λ r. r.seq) IsBefore rs.next rs.pending

-- The test of it.
unfoldable pub is_store : Results → Bool
is_store rs = are_numbered MOST_PENDING (λ r. r.seq) are_rising rs.next rs.pending

-- The result of an executed package has a number, and isn't marked.
abbrev pub numbered : ℕ → List ℕ → ℕ → ℕ → List Item → PackageResult
numbered seq eim association counter items =
    record { seq = seq; eim = eim; association = association; counter = counter; items = items; rolled = false }

-- The next number is given away without a result: it rises, and the pending results stay.
unfoldable pub passed : Results → Results
passed rs = record rs { next = rs.next + 1 }
