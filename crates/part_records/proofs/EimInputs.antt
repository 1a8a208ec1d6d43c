-- What comes to a manager: what is read was spelled so, and what is spelled is read again.
use Rattle.std.proofs.Common.{◌≡◌, ℕ, ◌≤◌, List, [], ◌++◌, length, Some, refl, ap, subst, arith, length-append}
use Rattle.std.specs.List.{flat_map}
use Rattle.sgp_der.specs.Element.{element}
use Rattle.sgp_der.specs.Number.{uint}
use Rattle.sgp_der.proofs.Fields.{on_some}
use Rattle.sgp_fields.specs.Alone.{made_of}
use Rattle.sgp_fields.specs.Values.{number_of}
use Rattle.sgp_fields.proofs.AloneCodec.{on_made, made_again}
use Rattle.sgp_fields.proofs.Codecs.{IsCodec, IsListed, IsSpelled, IsTaken}
use Rattle.sgp_fields.proofs.Elements.{on_tag, whole_codec}
use Rattle.sgp_fields.proofs.Steps.{on_value, on_last, value_again, last_again}
use Rattle.sgp_fields.proofs.ValueCodecs.{number_codec, mark_codec, IsIn}
use Rattle.sgp_fields.proofs.Sizes.{short, number_few, counter_few}
use Rattle.small_card.specs.Ranges.{greatest_counter}
use Rattle.small_card.specs.declared.types.Body.TheVariants.{Psmos, Ecos}
use Rattle.package_codec.specs.Reading.{body_of}
use Rattle.package_codec.specs.Spelling.{psmo, eco, body}
use Rattle.package_codec.proofs.Bodies.{body_listed, psmos_again, ecos_again, psmos_few, ecos_few}
use Rattle.esipa_codec.specs.Spelling.{to_eim}
use Rattle.esipa_codec.proofs.ToEimCodec.{to_eim_codec, to_eim_few}
use Rattle.std.proofs.lemmas.Option.{same_Some}
use Rattle.iot_bytes.proofs.Framing.{IsBytes}
use Rattle.part_records.specs.Ranges.{IsBind, IsEimInput}
use Rattle.part_records.specs.Reading.{bind_of, eim_input_of, eim_input_at}
use Rattle.part_records.specs.Spelling.{bind_content, eim_input}
use Rattle.part_records.specs.declared.records.EimInput.{EimInput}
use Rattle.part_records.specs.declared.records.EimInput.TheVariants as eim_in

association_codec : IsCodec (number_of 1 4294967295) uint (IsIn 1 4294967295)
association_codec = number_codec 1 4294967295 (omega arith)

last_codec : IsCodec (number_of 0 greatest_counter) uint (IsIn 0 greatest_counter)
last_codec = number_codec 0 greatest_counter (omega arith)

bind_taken : (content : List ℕ) (x : EimInput) → IsBytes content → bind_of content ≡ Some x → IsTaken eim_input IsEimInput 0xa0 content x
unfolding bind_of bind_content eim_input IsEimInput
bind_taken content x fits e =
    on_value association_codec 0x80 content _ x fits e (λ association rest a e1.
    on_last last_codec 0x81 rest _ x a.others e1 (λ last b e2.
    let whole : content ≡ element 0x80 (uint association) ++ element 0x81 (uint last) = cc (a.parts, b.octets) in
    let range : IsBind association last = record { association = record { some = a.fits.low; fits = a.fits.high }; last = b.fits.high } in
    subst (λ (y : EimInput). IsTaken eim_input IsEimInput 0xa0 content y) (same_Some _ _ e2) (record { octets = ap (element 0xa0) whole; fits = range })))

order_taken : (tag : ℕ) (content : List ℕ) (x : EimInput) → IsBytes content → length content ≤ 16777215 → made_of (body_of tag) eim_in.Order content ≡ Some x → IsTaken eim_input IsEimInput tag content x
unfolding eim_input IsEimInput
order_taken tag content x fits few e =
    on_some (body_of tag content) _ x e (λ b read e1.
    let t = body_listed.takes tag content b fits few read in
    subst (λ (y : EimInput). IsTaken eim_input IsEimInput tag content y) (same_Some _ _ e1) (record { octets = t.octets; fits = t.fits }))

taken : (tag : ℕ) (content : List ℕ) (x : EimInput) → IsBytes content → length content ≤ 16777215 → eim_input_of tag content ≡ Some x → IsTaken eim_input IsEimInput tag content x
unfolding eim_input_of eim_input IsEimInput
taken tag content x fits few e =
    on_tag tag 0xa0 content _ _ x e (bind_taken content x fits) (λ e1.
    on_made mark_codec (λ u. eim_in.Skip) tag 0x86 content _ x fits e1 (λ u h. record { octets = refl; fits = tt }) (λ e2.
    on_made to_eim_codec eim_in.Message tag 0xa7 content _ x fits e2 (λ m h. record { octets = refl; fits = h }) (λ e3.
    order_taken tag content x fits few e3)))

bind_again : (association last : ℕ) → IsBind association last → bind_of (bind_content association last) ≡ Some (eim_in.Bind association last)
unfolding bind_of bind_content
bind_again association last h =
    rw (value_again association_codec 0x80 association (element 0x81 (uint last)) (omega arith) (omega (arith, number_few association h.association.fits)) (record { low = h.association.some; high = h.association.fits }))
    (rw (last_again last_codec 0x81 last (omega arith) (omega (arith, counter_few last (omega (arith, h.last)))) (record { low = omega arith; high = h.last })) refl)

bind_few : (association last : ℕ) → IsBind association last → length (bind_content association last) ≤ 17
unfolding bind_content
bind_few association last h =
    omega (
      arith,
      length-append (element 0x80 (uint association)) (element 0x81 (uint last)),
      short 0x80 (uint association) 5 (number_few association h.association.fits) (omega arith),
      short 0x81 (uint last) 8 (counter_few last (omega (arith, h.last))) (omega arith),
    )

again : (x : EimInput) → IsEimInput x → IsSpelled eim_input_of eim_input x
unfolding eim_input_of eim_input IsEimInput body_of body
again (eim_in.Bind association last) h = record { tag = 0xa0; content = bind_content association last; octets = refl; low = omega arith; few = omega (arith, bind_few association last h); read = bind_again association last h }
again (eim_in.Order (Psmos ops)) h = record { tag = 0xa4; content = flat_map psmo ops; octets = refl; low = omega arith; few = omega (arith, psmos_few ops h); read = rw (psmos_again ops h) refl }
again (eim_in.Order (Ecos ops)) h = record { tag = 0xa5; content = flat_map eco ops; octets = refl; low = omega arith; few = omega (arith, ecos_few ops h); read = rw (ecos_again ops h) refl }
again eim_in.Skip h = record { tag = 0x86; content = []; octets = refl; low = omega arith; few = omega arith; read = made_again mark_codec (λ u. eim_in.Skip) tt tt }
again (eim_in.Message m) h = record { tag = 0xa7; content = to_eim m; octets = refl; low = omega arith; few = omega (arith, to_eim_few m h); read = made_again to_eim_codec eim_in.Message m h }

-- what comes to a manager and its elements
pub eim_listed : IsListed eim_input_of eim_input IsEimInput
eim_listed = record { takes = taken; again = again }

-- and its octets
pub eim_codec : IsCodec eim_input_at eim_input IsEimInput
unfolding eim_input_at
eim_codec = whole_codec eim_listed
