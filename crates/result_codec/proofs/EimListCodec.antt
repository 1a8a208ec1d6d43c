-- An eIM list that is read was spelled so, and one that is spelled is read again.
use Rattle.std.proofs.Common.{◌≡◌, ℕ, ◌≤◌, List, ◌++◌, length, Some, refl, ap, subst, ◌∙◌, arith, append_assoc, length-append}
use Rattle.std.specs.List.{flat_map}
use Rattle.sgp_der.specs.Element.{element}
use Rattle.sgp_der.specs.Number.{uint}
use Rattle.sgp_der.proofs.Fields.{on_some, guard_some}
use Rattle.sgp_values.specs.Ranges.{IsEimId, IsAddress}
use Rattle.sgp_fields.specs.Fields.{octets}
use Rattle.sgp_fields.specs.Values.{number_of}
use Rattle.sgp_fields.specs.Lists.{list_at}
use Rattle.sgp_fields.proofs.Codecs.{IsCodec, IsListed, IsValue, IsLast}
use Rattle.sgp_fields.proofs.Elements.{record_listed}
use Rattle.sgp_fields.proofs.Steps.{on_value, on_last, value_again, last_again, only_if_again}
use Rattle.sgp_fields.proofs.ValueCodecs.{eim_id_codec, address_codec}
use Rattle.sgp_fields.proofs.ListCodec.{list_codec}
use Rattle.sgp_fields.proofs.Numbers.{card_number_codec, up_to_codec, IsUpTo}
use Rattle.sgp_fields.proofs.Sizes.{short, middle, long, number_few, counter_few, flat_few}
use Rattle.small_card.specs.Pairs.{each_pair, are_lines_apart}
use Rattle.small_card.specs.Ranges.{IsNumber, IsEimLine, IsEimList, greatest_counter}
use Rattle.small_card.specs.declared.types.EimLine.{EimLine}
use Rattle.small_card.proofs.PairTests.{line_pairs, pairs_take, pairs_again}
use Rattle.std.proofs.lemmas.Option.{same_Some}
use Rattle.iot_bytes.proofs.Framing.{IsBytes}
use Rattle.result_codec.specs.Spelling.{eim_line_content, eim_line, eim_lines}
use Rattle.result_codec.specs.Reading.{eim_line_fields, eim_line_of, eim_lines_at}

kept_codec : IsCodec (number_of 0 greatest_counter) uint (IsUpTo greatest_counter)
kept_codec = up_to_codec greatest_counter (omega arith)

line_made : (content r1 r2 r3 : List ℕ) (id address : List ℕ) (association counter : ℕ) (e : EimLine)
    → IsValue octets IsEimId 0x80 content id r1 → IsValue octets IsAddress 0x81 r1 address r2 → IsValue uint IsNumber 0x82 r2 association r3 → IsLast uint (IsUpTo greatest_counter) 0x83 r3 counter
    → record { id = id; address = address; association = association; counter = counter } ≡ e → (content ≡ eim_line_content e) × IsEimLine e
unfolding eim_line_content
line_made content r1 r2 r3 id address association counter e a b c d is =
    let whole : content ≡ element 0x80 id ++ (element 0x81 address ++ (element 0x82 (uint association) ++ element 0x83 (uint counter))) = cc (a.parts, b.parts, c.parts, d.octets) in
    let grouped : content ≡ element 0x80 id ++ element 0x81 address ++ element 0x82 (uint association) ++ element 0x83 (uint counter) = simp append_assoc whole in
    subst (λ (x : EimLine). (content ≡ element 0x80 x.id ++ element 0x81 x.address ++ element 0x82 (uint x.association) ++ element 0x83 (uint x.counter)) × IsEimLine x) is
    (grouped, record { id = a.fits; address = b.fits; association = c.fits; counter = d.fits })

line_takes : (content : List ℕ) (e : EimLine) → IsBytes content → eim_line_fields content ≡ Some e → (content ≡ eim_line_content e) × IsEimLine e
unfolding eim_line_fields
line_takes content e fits is =
    on_value eim_id_codec 0x80 content _ e fits is (λ id r1 a e1.
    on_value address_codec 0x81 r1 _ e a.others e1 (λ address r2 b e2.
    on_value card_number_codec 0x82 r2 _ e b.others e2 (λ association r3 c e3.
    on_last kept_codec 0x83 r3 _ e c.others e3 (λ counter d e4.
    line_made content r1 r2 r3 id address association counter e a b c d (same_Some _ _ e4)))))

line_again : (e : EimLine) → IsEimLine e → eim_line_fields (eim_line_content e) ≡ Some e
unfolding eim_line_fields eim_line_content
line_again e h =
    let id = element 0x80 e.id in
    let address = element 0x81 e.address in
    let association = element 0x82 (uint e.association) in
    let counter = element 0x83 (uint e.counter) in
    let grouped : id ++ address ++ association ++ counter ≡ id ++ (address ++ (association ++ counter)) = simp append_assoc in
    ap eim_line_fields grouped
    ∙ rw (value_again eim_id_codec 0x80 e.id (address ++ (association ++ counter)) (omega arith) (omega (arith, h.id.few)) h.id)
    (rw (value_again address_codec 0x81 e.address (association ++ counter) (omega arith) (omega (arith, h.address.few)) h.address)
    (rw (value_again card_number_codec 0x82 e.association counter (omega arith) (omega (arith, number_few e.association h.association.fits)) h.association)
    (rw (last_again kept_codec 0x83 e.counter (omega arith) (omega (arith, counter_few e.counter h.counter)) h.counter) refl)))

content_few : (e : EimLine) → IsEimLine e → length (eim_line_content e) ≤ 279
unfolding eim_line_content
content_few e h =
    let id = element 0x80 e.id in
    let address = element 0x81 e.address in
    let association = element 0x82 (uint e.association) in
    let counter = element 0x83 (uint e.counter) in
    omega (
      arith,
      length-append (id ++ address ++ association) counter,
      length-append (id ++ address) association,
      length-append id address,
      middle 0x80 e.id 128 h.id.few (omega arith),
      middle 0x81 e.address 128 h.address.few (omega arith),
      short 0x82 (uint e.association) 5 (number_few e.association h.association.fits) (omega arith),
      short 0x83 (uint e.counter) 8 (counter_few e.counter h.counter) (omega arith),
    )

-- a line has at most 283 octets
pub line_few : (e : EimLine) → IsEimLine e → length (eim_line e) ≤ 283
unfolding eim_line
line_few e h = long 0x30 (eim_line_content e) 279 (content_few e h) (omega arith)

-- an eIM list has at most 2,264 octets
pub eim_lines_few : (es : List EimLine) → IsEimList es → length (eim_lines es) ≤ 2264
eim_lines_few es h = omega (arith, flat_few eim_line IsEimLine 283 line_few es h.each, h.few)

-- lines and their fields
fields_codec : IsCodec eim_line_fields eim_line_content IsEimLine
fields_codec = record { takes = line_takes; again = line_again }

-- lines and their elements
pub eim_line_listed : IsListed eim_line_of eim_line IsEimLine
unfolding eim_line
eim_line_listed = record_listed fields_codec 0x30 (omega arith) (λ e h. omega (arith, content_few e h))

lines_take : (content : List ℕ) (es : List EimLine) → IsBytes content → eim_lines_at content ≡ Some es → (content ≡ eim_lines es) × IsEimList es
unfolding eim_lines_at
lines_take content es fits e =
    on_some (list_at eim_line_of 8 content) _ es e (λ rows a e1.
    let t = (list_codec eim_line_listed 8).takes content rows fits a in
    let g = guard_some (each_pair are_lines_apart rows) rows es e1 in
    subst (λ (x : List EimLine). (content ≡ flat_map eim_line x) × IsEimList x) g.1 (t.0, record { few = t.1.few; each = t.1.each; apart = pairs_take line_pairs rows g.0 }))

lines_again : (es : List EimLine) → IsEimList es → eim_lines_at (eim_lines es) ≡ Some es
unfolding eim_lines_at
lines_again es h =
    rw ((list_codec eim_line_listed 8).again es (record { few = h.few; each = h.each }))
    (only_if_again (each_pair are_lines_apart es) es (pairs_again line_pairs es h.apart))

-- eIM lists and their contents
pub eim_lines_codec : IsCodec eim_lines_at eim_lines IsEimList
eim_lines_codec = record { takes = lines_take; again = lines_again }
