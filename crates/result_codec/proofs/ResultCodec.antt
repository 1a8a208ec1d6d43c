-- A result that is read was spelled so, and one that is spelled is read again.
use Rattle.std.proofs.Common.{◌≡◌, ℕ, ◌≤◌, Bool, List, ◌++◌, length, Some, refl, ap, subst, ◌∙◌, arith, append_assoc, length-append}
use Rattle.sgp_der.specs.Element.{element}
use Rattle.sgp_der.specs.Number.{uint}
use Rattle.sgp_der.specs.Reading.{Part}
use Rattle.sgp_der.proofs.Fields.{on_some, field_again, IsField}
use Rattle.sgp_values.specs.Ranges.{IsEimId}
use Rattle.sgp_fields.specs.Fields.{octets, mark, last_mark_at}
use Rattle.sgp_fields.specs.Elements.{tagged_as}
use Rattle.sgp_fields.specs.Laws.{OneSpelling}
use Rattle.sgp_fields.proofs.Codecs.{IsCodec, IsListed, IsValue}
use Rattle.sgp_fields.proofs.Elements.{record_codec, record_listed, one_spelling}
use Rattle.sgp_fields.proofs.Marks.{last_mark_codec, mark_few}
use Rattle.sgp_fields.proofs.Steps.{on_value, on_field, value_again}
use Rattle.sgp_fields.proofs.ValueCodecs.{eim_id_codec, IsAny}
use Rattle.sgp_fields.proofs.Numbers.{card_number_codec, counter_codec}
use Rattle.sgp_fields.proofs.Sizes.{short, middle, long, number_few, counter_few}
use Rattle.small_card.specs.Ranges.{IsNumber, IsCounter, IsResult}
use Rattle.small_card.specs.declared.types.Item.{Item}
use Rattle.small_card.specs.declared.types.PackageResult.{PackageResult}
use Rattle.std.proofs.lemmas.Option.{same_Some}
use Rattle.iot_bytes.proofs.Framing.{IsBytes}
use Rattle.result_codec.specs.Spelling.{items, result_content, result}
use Rattle.result_codec.specs.Reading.{items_at, result_of, result_at}
use Rattle.result_codec.proofs.ItemCodec.{items_codec, items_few, IsItems}

result_made : (content r1 r2 r3 r4 : List ℕ) (seq : ℕ) (eim : List ℕ) (association counter : ℕ) (p : Part) (is : List Item) (rolled : Bool) (r : PackageResult)
    → IsValue uint IsNumber 0x80 content seq r1 → IsValue octets IsEimId 0x81 r1 eim r2 → IsValue uint IsNumber 0x82 r2 association r3 → IsValue uint IsCounter 0x83 r3 counter r4
    → IsField 0xa4 r4 p → (p.content ≡ items is) × IsItems is → p.rest ≡ mark 0x85 rolled
    → record { seq = seq; eim = eim; association = association; counter = counter; items = is; rolled = rolled } ≡ r → (content ≡ result_content r) × IsResult r
unfolding result_content
result_made content r1 r2 r3 r4 seq eim association counter p is rolled r a b c d f t m same =
    let whole : content ≡ element 0x80 (uint seq) ++ (element 0x81 eim ++ (element 0x82 (uint association) ++ (element 0x83 (uint counter) ++ (element 0xa4 (items is) ++ mark 0x85 rolled)))) = cc (a.parts, b.parts, c.parts, d.parts, f.parts, t.0, m) in
    let grouped : content ≡ element 0x80 (uint seq) ++ element 0x81 eim ++ element 0x82 (uint association) ++ element 0x83 (uint counter) ++ element 0xa4 (items is) ++ mark 0x85 rolled = simp append_assoc whole in
    subst (λ (x : PackageResult). (content ≡ element 0x80 (uint x.seq) ++ element 0x81 x.eim ++ element 0x82 (uint x.association) ++ element 0x83 (uint x.counter) ++ element 0xa4 (items x.items) ++ mark 0x85 x.rolled) × IsResult x) same
    (grouped, record { seq = a.fits; eim = b.fits; association = c.fits; counter = d.fits; many = t.1.many; items = t.1.each })

marks : IsCodec (last_mark_at 0x85) (mark 0x85) IsAny
marks = last_mark_codec 0x85 (omega arith)

fields_take : (content : List ℕ) (r : PackageResult) → IsBytes content → result_of content ≡ Some r → (content ≡ result_content r) × IsResult r
unfolding result_of
fields_take content r fits e =
    on_value card_number_codec 0x80 content _ r fits e (λ seq r1 a e1.
    on_value eim_id_codec 0x81 r1 _ r a.others e1 (λ eim r2 b e2.
    on_value card_number_codec 0x82 r2 _ r b.others e2 (λ association r3 c e3.
    on_value counter_codec 0x83 r3 _ r c.others e3 (λ counter r4 d e4.
    on_field 0xa4 r4 _ r d.others e4 (λ p f e5.
    on_some (items_at p.content) _ r e5 (λ is i e6.
    on_some (last_mark_at 0x85 p.rest) _ r e6 (λ rolled m e7.
    result_made content r1 r2 r3 r4 seq eim association counter p is rolled r a b c d f (items_codec.takes p.content is f.content i) (marks.takes p.rest rolled f.rest m).0 (same_Some _ _ e7))))))))

items_of_result : (r : PackageResult) → IsResult r → IsItems r.items
items_of_result r h = record { many = h.many; each = h.items }

pub content_few : (r : PackageResult) → IsResult r → length (result_content r) ≤ 18305
unfolding result_content
content_few r h =
    let seq = element 0x80 (uint r.seq) in
    let eim = element 0x81 r.eim in
    let association = element 0x82 (uint r.association) in
    let counter = element 0x83 (uint r.counter) in
    let all = element 0xa4 (items r.items) in
    omega (
      arith,
      length-append (seq ++ eim ++ association ++ counter ++ all) (mark 0x85 r.rolled),
      length-append (seq ++ eim ++ association ++ counter) all,
      length-append (seq ++ eim ++ association) counter,
      length-append (seq ++ eim) association,
      length-append seq eim,
      short 0x80 (uint r.seq) 5 (number_few r.seq h.seq.fits) (omega arith),
      middle 0x81 r.eim 128 h.eim.few (omega arith),
      short 0x82 (uint r.association) 5 (number_few r.association h.association.fits) (omega arith),
      short 0x83 (uint r.counter) 8 (counter_few r.counter h.counter.fits) (omega arith),
      long 0xa4 (items r.items) 18144 (items_few r.items (items_of_result r h)) (omega arith),
      mark_few 0x85 r.rolled,
    )

pub result_few : (r : PackageResult) → IsResult r → length (result r) ≤ 18309
unfolding result
result_few r h = long 0x30 (result_content r) 18305 (content_few r h) (omega arith)

fields_again : (r : PackageResult) → IsResult r → result_of (result_content r) ≡ Some r
unfolding result_of result_content
fields_again r h =
    let seq = element 0x80 (uint r.seq) in
    let eim = element 0x81 r.eim in
    let association = element 0x82 (uint r.association) in
    let counter = element 0x83 (uint r.counter) in
    let all = element 0xa4 (items r.items) in
    let last = mark 0x85 r.rolled in
    let grouped : seq ++ eim ++ association ++ counter ++ all ++ last ≡ seq ++ (eim ++ (association ++ (counter ++ (all ++ last)))) = simp append_assoc in
    ap result_of grouped
    ∙ rw (value_again card_number_codec 0x80 r.seq (eim ++ (association ++ (counter ++ (all ++ last)))) (omega arith) (omega (arith, number_few r.seq h.seq.fits)) h.seq)
    (rw (value_again eim_id_codec 0x81 r.eim (association ++ (counter ++ (all ++ last))) (omega arith) (omega (arith, h.eim.few)) h.eim)
    (rw (value_again card_number_codec 0x82 r.association (counter ++ (all ++ last)) (omega arith) (omega (arith, number_few r.association h.association.fits)) h.association)
    (rw (value_again counter_codec 0x83 r.counter (all ++ last) (omega arith) (omega (arith, counter_few r.counter h.counter.fits)) h.counter)
    (rw (field_again 0xa4 (items r.items) last (omega arith) (omega (arith, items_few r.items (items_of_result r h))))
    (rw (items_codec.again r.items (items_of_result r h))
    (rw (marks.again r.rolled tt) refl))))))

-- a result's fields begin with its number
pub number_first : (r : PackageResult) → (others : List ℕ) × (result_content r ≡ element 0x80 (uint r.seq) ++ others)
unfolding result_content
number_first r = (element 0x81 r.eim ++ (element 0x82 (uint r.association) ++ (element 0x83 (uint r.counter) ++ (element 0xa4 (items r.items) ++ mark 0x85 r.rolled))), simp append_assoc)

-- results and their fields
pub content_codec : IsCodec result_of result_content IsResult
content_codec = record { takes = fields_take; again = fields_again }

-- results and their octets
pub result_codec : IsCodec result_at result IsResult
unfolding result_at result
result_codec = record_codec content_codec 0x30 (omega arith) (λ r h. omega (arith, content_few r h))

-- results and their elements
pub result_listed : IsListed (tagged_as 0x30 result_of) result IsResult
unfolding result
result_listed = record_listed content_codec 0x30 (omega arith) (λ r h. omega (arith, content_few r h))

-- a result has one spelling, and no spelling is a proper prefix of another
pub result_split : OneSpelling result IsResult
result_split = one_spelling result_listed
