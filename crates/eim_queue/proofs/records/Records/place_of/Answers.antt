use Rattle.std.proofs.Common.{◌∙◌, ap, sym, List}
use Rattle.std.specs.Prelude.{position, slice_get}
use Rattle.small_card.specs.declared.types.PackageResult.{PackageResult}
use Rattle.esipa_codec.specs.Records.{key, is_of}
use Rattle.eim_queue.specs.Places.{some_passes}
use Rattle.eim_queue.proofs.Finding.{found_there, found_other, found_nowhere}
use Rattle.eim_queue.proofs.records.Records.place_of.Goals as goal

pub returns-then-is_at : goal.returns-then-is_at
returns-then-is_at c =
    let shown = ap (λ (rs : List PackageResult). some_passes (is_of c.args.association c.args.counter) (slice_get rs c.in-Some.at)) (sym c.as_slice.ensures) ∙ sym c.is_at.ensures ∙ c.if-is_at.true in
    sym (found_there key c.self.inside.places c.args.association c.args.counter c.self.inside.rows c.in-Some.at c.self.invariant (sym c.place.ensures ∙ c.in-Some.is) shown)
    ∙ ap (λ (rs : List PackageResult). position (is_of c.args.association c.args.counter) rs) c.self.view_is

pub returns-else-is_at : goal.returns-else-is_at
returns-else-is_at c =
    let shown = ap (λ (rs : List PackageResult). some_passes (is_of c.args.association c.args.counter) (slice_get rs c.in-Some.at)) (sym c.as_slice.ensures) ∙ sym c.is_at.ensures ∙ c.if-is_at.false in
    sym (found_other key c.self.inside.places c.args.association c.args.counter c.self.inside.rows c.in-Some.at c.self.invariant (sym c.place.ensures ∙ c.in-Some.is) shown)
    ∙ ap (λ (rs : List PackageResult). position (is_of c.args.association c.args.counter) rs) c.self.view_is

pub returns-in-None : goal.returns-in-None
returns-in-None c =
    sym (found_nowhere key c.self.inside.places c.args.association c.args.counter c.self.inside.rows c.self.invariant (sym c.place.ensures ∙ c.in-None.is))
    ∙ ap (λ (rs : List PackageResult). position (is_of c.args.association c.args.counter) rs) c.self.view_is
