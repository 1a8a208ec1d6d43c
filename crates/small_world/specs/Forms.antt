-- The results of a history's loads: each in its newest form, and in all forms that it had.
use Rattle.std.specs.Prelude.{◌≡◌, ℕ, List, [], ◌∷◌, ◌++◌, map, if◌then◌else◌, Option, Some, None}
use Rattle.small_card.specs.Cards.{FullCard}
use Rattle.small_card.specs.Histories.{History, full_of}
use Rattle.small_card.specs.Packages.{result_of}
use Rattle.small_card.specs.Units.{CardUnit, initial, load, rollback, remove, has_seq, with_mark}
use Rattle.small_card.specs.declared.types.Armed.{Armed}
use Rattle.small_card.specs.declared.types.PackageResult.{PackageResult}

-- A rollback marks the armed result and gives it the next number; every other result stays.
unfoldable pub remarked : Option Armed → ℕ → PackageResult → PackageResult
remarked None next r = r
remarked (Some a) next r = if has_seq a.seq r then with_mark next r else r

-- A load brings a result, a rollback gives one its newest form, every other unit leaves them.
unfoldable pub renewed : FullCard → CardUnit → List PackageResult → List PackageResult
renewed f (initial id address key) rs = rs
renewed f (load p) rs = result_of f.card p ∷ rs
renewed f rollback rs = map (remarked f.armed f.card.results.next) rs
renewed f (remove seq) rs = rs

-- The result of each load in its newest form, the newest load first.
unfoldable pub newest_from : FullCard → List CardUnit → List PackageResult
newest_from start [] = []
newest_from start (u ∷ us) = renewed (full_of (record { start = start; units = us })) u (newest_from start us)

unfoldable pub newest : History → List PackageResult
newest h = newest_from h.start h.units

-- Each form that a result had: it was the newest after some of the units.
unfoldable pub forms_from : FullCard → List CardUnit → List PackageResult
forms_from start [] = []
forms_from start (u ∷ us) = newest_from start (u ∷ us) ++ forms_from start us

unfoldable pub forms : History → List PackageResult
forms h = forms_from h.start h.units

-- Two forms are of one result: counters of a pair rise, so identifier, association and counter name a load.
pub record IsOne (r s : PackageResult) : Type 0 where
  pub eim : r.eim ≡ s.eim
  pub association : r.association ≡ s.association
  pub counter : r.counter ≡ s.counter
