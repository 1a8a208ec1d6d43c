use Rattle.std.proofs.Common.{◌∷◌, ◌<◌, ◌≤◌, ◌∙◌, ap, sym, subst, refl, List, map}
use Rattle.std.specs.Prelude.{position}
use Rattle.small_card.specs.declared.types.PackageResult.{PackageResult}
use Rattle.esipa_codec.specs.Records.{key, is_of}
use Rattle.eim_queue.specs.Places.{ArePlaces}
use Rattle.eim_queue.specs.Records.{AreRecords}
use Rattle.eim_queue.proofs.Keeping.{pushed_records, replaced_records, kept_records, same_keys, found_place, found_none, then_ok}
use Rattle.eim_queue.proofs.records.Records.receive.Goals as goal

pub invariant_of-self : goal.invariant_of-self
invariant_of-self c =
    let rows = c.self.inside.rows in
    let r = c.args.item in
    let found = ap (λ (rs : List PackageResult). position (is_of r.association r.counter) rs) c.self.view_is ∙ sym c.place_of.ensures ∙ c.in-Some.is in
    let place = found_place rows rows c.as_slice.result.now c.in-Some.at r c.index-as_slice-at.result refl c.as_slice.ensures found c.index-as_slice-at.is in
    subst (λ (rs : List PackageResult). ArePlaces c.self.inside.places (map key rs)) (sym c.set.ensures.items)
    (subst (ArePlaces c.self.inside.places) (sym (same_keys rows c.in-Some.at r c.index-as_slice-at.result place)) c.self.invariant)

pub add-requires : goal.add-requires
add-requires c = found_none c.args.self.now c.args.self.now c.args.item refl (sym c.place_of.ensures ∙ c.in-None.is)

pub returns-then-as_slice-at-clause-ok : goal.returns-then-as_slice-at-clause-ok
returns-then-as_slice-at-clause-ok c = λ received h.
    let rows = c.self.inside.rows in
    let r = c.args.item in
    let found = ap (λ (rs : List PackageResult). position (is_of r.association r.counter) rs) c.self.view_is ∙ sym c.place_of.ensures ∙ c.in-Some.is in
    let place = found_place rows rows c.as_slice.result.now c.in-Some.at r c.index-as_slice-at.result refl c.as_slice.ensures found c.index-as_slice-at.is in
    let k = subst (λ (rs : List PackageResult). AreRecords rs received) (sym c.self.view_is) h in
    subst (λ (rs : List PackageResult). AreRecords rs (r ∷ received)) (sym c.set.ensures.items)
    (replaced_records rows received c.in-Some.at r c.index-as_slice-at.result k place (subst (λ (x : PackageResult). x.seq < r.seq) (sym c.index-as_slice-at.is) c.if-as_slice-at.true))

pub returns-else-as_slice-at-clause-ok : goal.returns-else-as_slice-at-clause-ok
returns-else-as_slice-at-clause-ok c = λ received h.
    let rows = c.self.inside.rows in
    let r = c.args.item in
    let found = ap (λ (rs : List PackageResult). position (is_of r.association r.counter) rs) c.self.view_is ∙ sym c.place_of.ensures ∙ c.in-Some.is in
    let place = found_place rows rows c.as_slice.result.now c.in-Some.at r c.index-as_slice-at.result refl c.as_slice.ensures found c.index-as_slice-at.is in
    let k = subst (λ (rs : List PackageResult). AreRecords rs received) (sym c.self.view_is) h in
    subst (λ (rs : List PackageResult). AreRecords rs (r ∷ received)) c.self.view_is
    (kept_records rows received c.in-Some.at r c.index-as_slice-at.result k place (subst (λ (x : PackageResult). r.seq ≤ x.seq) (sym c.index-as_slice-at.is) c.if-as_slice-at.false))

pub returns-in-None-clause-ok : goal.returns-in-None-clause-ok
returns-in-None-clause-ok c = λ received h.
    then_ok c.add.result _ _
    (λ e. subst (λ rs. AreRecords rs (c.args.item ∷ received)) (sym e)
    (pushed_records c.args.self.now received c.args.item h (found_none c.args.self.now c.args.self.now c.args.item refl (sym c.place_of.ensures ∙ c.in-None.is))))
    c.add.ensures.ok
