-- The test on pairs of profiles says whether they may stand in one table.
use Rattle.std.proofs.Common.{◌≡◌, ◌≤◌, true, false, List, length, ◌∙◌, sym}
use Rattle.std.proofs.lemmas.Bool.{true≢false}
use Rattle.small_card.specs.Lists.{Every}
use Rattle.small_card.specs.Pairs.{each_pair, are_profiles_apart}
use Rattle.small_card.specs.Ranges.{IsProfile, IsTable}
use Rattle.small_card.specs.declared.types.Profile.{Profile}
use Rattle.small_card.proofs.PairTests.{pairs_take, pairs_again, profile_pairs}
use Rattle.profile_table.specs.Tables.{MayStand}

pub table_of : (ps : List Profile) → length ps ≤ 16 → each_pair are_profiles_apart ps ≡ true → Every IsProfile ps → IsTable ps
table_of ps few e each = record { few = few; each = each; apart = pairs_take profile_pairs ps e }

pub no_table : (ps : List Profile) → each_pair are_profiles_apart ps ≡ false → MayStand ps → ⊥
no_table ps e h = true≢false (sym (pairs_again profile_pairs ps h.apart) ∙ e)
