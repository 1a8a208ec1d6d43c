-- When a rollback may be made, and where the result of the rolled-back package goes.
use Rattle.std.specs.Prelude.{ℕ, ◌≡◌, ◌≤◌, true, List, [], ◌∷◌, ◌++◌, find, Some}
use Rattle.small_card.specs.Cards.{Results}
use Rattle.small_card.specs.Lists.{without}
use Rattle.small_card.specs.Profiles.{has_profile}
use Rattle.small_card.specs.Units.{has_seq, is_pending, with_mark}
use Rattle.small_card.specs.declared.types.Profile.{Profile}
use Rattle.small_card.specs.declared.types.PackageResult.{PackageResult}
use Rattle.small_card.specs.declared.types.Armed.{Armed}

-- The former profile is in the table, the armed result is pending, and a number is left for its mark.
pub record MayRoll (ps : List Profile) (rs : Results) (a : Armed) : Type 0 where
  pub former : has_profile a.former ps ≡ true
  pub pending : is_pending a.seq rs.pending ≡ true
  pub number : rs.next ≤ 4294967294

-- The result that had this number goes last, marked and under the new number; the others stay in order.
pub record IsMarkedLast (seq number : ℕ) (before after : List PackageResult) : Type 0 where
  pub kept : PackageResult
  pub found : find (has_seq seq) before ≡ Some kept
  pub last : after ≡ without (has_seq seq) before ++ with_mark number kept ∷ []
