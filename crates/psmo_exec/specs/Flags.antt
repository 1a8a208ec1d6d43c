-- What the executor's flag stands for, and what a run leaves.
use Rattle.std.specs.Prelude.{◌≡◌, ℕ, ◌&&◌, Bool, false, List, [], map, Option, Some, None}
use Rattle.small_card.specs.Lists.{same}
use Rattle.small_card.specs.Profiles.{has_profile, is_arming, arms}
use Rattle.small_card.specs.Packages.{run_psmos}
use Rattle.small_card.specs.declared.types.Profile.{Profile}
use Rattle.small_card.specs.declared.types.Psmo.{Psmo}
use Rattle.small_card.specs.declared.types.Item.{Item}

-- A profile was enabled as the package began, and it is in the table.
unfoldable pub is_there : Option (List ℕ) → List Profile → Bool
is_there None ps = false
is_there (Some former) ps = has_profile former ps

-- A profile was enabled as the package began, and the operation with this item arms it.
unfoldable pub arms_now : Option (List ℕ) → Psmo → Item → Bool
arms_now None op it = false
arms_now (Some former) op it = is_arming former op it

-- The profile was enabled as the package began, and it is armed.
unfoldable pub is_kept : Option (List ℕ) → Bool → List ℕ → Bool
is_kept None armed iccid = false
is_kept (Some former) armed iccid = same former iccid && armed

-- The table, the items and the flag are those of the operations that were executed.
pub record IsRun (former : Option (List ℕ)) (start : List Profile) (ops : List Psmo) (ps : List Profile) (items : List Item) (armed : Bool) : Type 0 where
  pub table : ps ≡ (run_psmos former [] start ops).0
  pub listed : items ≡ map (λ d. d.1) (run_psmos former [] start ops).1
  pub flag : armed ≡ arms former (run_psmos former [] start ops).1
