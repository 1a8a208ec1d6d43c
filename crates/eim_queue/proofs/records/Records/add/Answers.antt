use Rattle.std.proofs.Common.{◌≡◌, ◌∷◌, [], ◌∙◌, ap, sym, subst, false, List, map, length}
use Rattle.std.specs.List.{list_any}
use Rattle.std.proofs.lemmas.List.{map-append, length-map}
use Rattle.small_card.specs.declared.types.PackageResult.{PackageResult}
use Rattle.esipa_codec.specs.Records.{key, is_of}
use Rattle.eim_queue.specs.Places.{is_key, ArePlaces}
use Rattle.eim_queue.proofs.Finding.{Keeps, places_stay, places_more}
use Rattle.eim_queue.proofs.Keeping.{either_way, any_key}
use Rattle.eim_queue.proofs.records.Records.add.Goals as goal

pub invariant_of-self-2 : goal.invariant_of-self-2
invariant_of-self-2 c =
    let rows = c.self.inside.rows in
    let r = c.args.item in
    let new = c.keep_place.new.places in
    let off : list_any (is_key r.association r.counter) (map key rows) ≡ false =
    any_key r.association r.counter rows ∙ ap (λ (rs : List PackageResult). list_any (is_of r.association r.counter) rs) c.self.view_is ∙ c.requires in
    let kept : Keeps c.self.inside.places new r.association r.counter (length rows) = subst (Keeps c.self.inside.places new r.association r.counter) c.len-last.ensures (record { places = c.in_ok-keep_place.ensures.ok }) in
    let longer : Keeps c.self.inside.places new r.association r.counter (length (map key rows)) = subst (Keeps c.self.inside.places new r.association r.counter) (sym (length-map rows key)) kept in
    either_way c.push_row.result _ _ (ArePlaces new (map key c.push_row.new.rows))
    (λ e. subst (λ (rs : List PackageResult). ArePlaces new (map key rs)) (sym e) (subst (ArePlaces new) (sym (map-append key rows (r ∷ []))) (places_more c.self.inside.places new (map key rows) (key r) c.self.invariant off longer)))
    (λ e. subst (λ (rs : List PackageResult). ArePlaces new (map key rs)) (sym e) (places_stay c.self.inside.places new r.association r.counter (length rows) (map key rows) c.self.invariant off kept))
    c.push_row.ensures.ok c.push_row.ensures.err
