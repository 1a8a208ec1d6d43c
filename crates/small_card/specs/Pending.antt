-- What one more unit makes of the pending results and of the next sequence number.
use Rattle.std.specs.Prelude.{ℕ, ◌≡◌, ◌≢◌, ◌+◌, false, List, [], ◌∷◌, ◌++◌}
use Rattle.small_card.specs.Cards.{Results}
use Rattle.small_card.specs.Units.{CardUnit, load, rollback, remove, with_mark}
use Rattle.small_card.specs.declared.types.Armed.{Armed}
use Rattle.small_card.specs.declared.types.Package.{Package}
use Rattle.small_card.specs.declared.types.PackageResult.{PackageResult}

-- The result goes last, under the next number, which rises.
pub record IsAdded (r : PackageResult) (before after : Results) : Type 0 where
  pub number : r.seq ≡ before.next
  pub last : after.pending ≡ before.pending ++ r ∷ []
  pub next : after.next ≡ before.next + 1

-- The result stands in the list, and the others are left in their order.
pub record IsTakenOut (r : PackageResult) (rs others : List PackageResult) : Type 0 where
  pub front : List PackageResult
  pub back : List PackageResult
  pub there : rs ≡ front ++ r ∷ back
  pub left : others ≡ front ++ back

-- The result with this number is taken out, and the next number stays.
pub record IsRemoved (seq : ℕ) (before after : Results) : Type 0 where
  pub result : PackageResult
  pub named : result.seq ≡ seq
  pub out : IsTakenOut result before.pending after.pending
  pub next : after.next ≡ before.next

-- The armed result, unmarked so far, is taken out and goes last, marked and under the next number.
pub record IsRolledBack (armed : Armed) (before after : Results) : Type 0 where
  pub result : PackageResult
  pub others : List PackageResult
  pub named : result.seq ≡ armed.seq
  pub unmarked : result.rolled ≡ false
  pub out : IsTakenOut result before.pending others
  pub last : after.pending ≡ others ++ with_mark before.next result ∷ []
  pub next : after.next ≡ before.next + 1

-- A unit of another kind than those that change the pending results.
pub record IsOther (u : CardUnit) : Type 0 where
  pub no_load : (p : Package) → u ≢ load p
  pub no_rollback : u ≢ rollback
  pub no_remove : (seq : ℕ) → u ≢ remove seq
