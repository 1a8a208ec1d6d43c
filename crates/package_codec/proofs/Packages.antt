-- A signed package that is read was spelled so, and one that is spelled is read again.
use Rattle.std.proofs.Common.{◌≡◌, ℕ, ◌≤◌, List, ◌++◌, length, Some, refl, sym, ap, subst, ◌∙◌, arith, append_assoc, length-append}
use Rattle.std.specs.Prelude.{nat_le}
use Rattle.std.proofs.lemmas.Bool.{leb-true, le-leb}
use Rattle.sgp_der.specs.Element.{element}
use Rattle.sgp_der.specs.Number.{uint}
use Rattle.sgp_der.proofs.Fields.{on_some, field_again, only_again}
use Rattle.sgp_values.proofs.Octets.{AllPass-from_bounds}
use Rattle.sgp_fields.specs.Laws.{OneSpelling}
use Rattle.sgp_fields.proofs.Codecs.{IsCodec}
use Rattle.sgp_fields.proofs.Elements.{record_codec, record_listed, one_spelling}
use Rattle.sgp_fields.proofs.Numbers.{card_number_codec, counter_codec}
use Rattle.sgp_fields.proofs.Sizes.{short, middle, long, number_few, counter_few}
use Rattle.sgp_fields.proofs.Steps.{on_value, on_only, on_field, on_test, value_again, only_if_again}
use Rattle.sgp_fields.proofs.ValueCodecs.{eim_id_codec, eid_codec}
use Rattle.small_card.specs.Ranges.{IsPackage, IsSigned}
use Rattle.small_card.specs.declared.types.Package.{Package}
use Rattle.small_card.specs.declared.types.Signed.{Signed}
use Rattle.std.proofs.lemmas.Option.{same_Some}
use Rattle.iot_bytes.proofs.Framing.{IsBytes}
use Rattle.package_codec.specs.Spelling.{body, package_fields, inner_package, signed_content, signed}
use Rattle.package_codec.specs.Reading.{body_at, package_of, signed_of, signed_at}
use Rattle.package_codec.proofs.Bodies.{body_codec, body_few}

-- five lists one after the other
regrouped : (a b c d e : List ℕ) → a ++ b ++ c ++ d ++ e ≡ a ++ (b ++ (c ++ (d ++ e)))
regrouped a b c d e = simp append_assoc

followed : (a b c : List ℕ) → b ≡ c → a ++ b ≡ a ++ c
followed a b c e = ap (λ (r : List ℕ). a ++ r) e

package_takes : (content : List ℕ) (p : Package) → IsBytes content → package_of content ≡ Some p → (content ≡ package_fields p) × IsPackage p
unfolding package_of package_fields
package_takes content p fits e =
    on_value eim_id_codec 0x80 content _ p fits e (λ eim second v e1.
    on_value eid_codec 0x81 second _ p v.others e1 (λ eid third w e2.
    on_value card_number_codec 0x82 third _ p w.others e2 (λ association fourth x e3.
    on_value counter_codec 0x83 fourth _ p x.others e3 (λ counter last y e4.
    on_some (body_at last) _ p e4 (λ operations read e5.
    let t = body_codec.takes last operations y.others read in
    let whole : content ≡ element 0x80 eim ++ (element 0x81 eid ++ (element 0x82 (uint association) ++ (element 0x83 (uint counter) ++ body operations))) =
    v.parts ∙ followed _ _ _ (w.parts ∙ followed _ _ _ (x.parts ∙ followed _ _ _ (y.parts ∙ followed _ _ _ t.0))) in
    let grouped = whole ∙ sym (regrouped (element 0x80 eim) (element 0x81 eid) (element 0x82 (uint association)) (element 0x83 (uint counter)) (body operations)) in
    subst (λ (q : Package). (content ≡ element 0x80 q.eim ++ element 0x81 q.eid ++ element 0x82 (uint q.association) ++ element 0x83 (uint q.counter) ++ body q.body) × IsPackage q) (same_Some _ _ e5)
    (grouped, record { eim = v.fits; eid = w.fits; association = x.fits; counter = y.fits; body = t.1 }))))))

-- how long the fields are at most
fields_few : (p : Package) → IsPackage p → length (package_fields p) ≤ 3346
unfolding package_fields
fields_few p fits =
    let eim = element 0x80 p.eim in
    let eid = element 0x81 p.eid in
    let association = element 0x82 (uint p.association) in
    let counter = element 0x83 (uint p.counter) in
    omega (
      arith,
      length-append (eim ++ eid ++ association ++ counter) (body p.body),
      length-append (eim ++ eid ++ association) counter,
      length-append (eim ++ eid) association,
      length-append eim eid,
      middle 0x80 p.eim 128 fits.eim.few (omega arith),
      short 0x81 p.eid 16 (omega (arith, fits.eid.len)) (omega arith),
      short 0x82 (uint p.association) 5 (number_few p.association fits.association.fits) (omega arith),
      short 0x83 (uint p.counter) 8 (counter_few p.counter fits.counter.fits) (omega arith),
      body_few p.body fits.body,
    )

package_again : (p : Package) → IsPackage p → package_of (package_fields p) ≡ Some p
unfolding package_of package_fields
package_again p fits =
    let last = body p.body in
    let fourth = element 0x83 (uint p.counter) ++ last in
    let third = element 0x82 (uint p.association) ++ fourth in
    let second = element 0x81 p.eid ++ third in
    ap package_of (regrouped (element 0x80 p.eim) (element 0x81 p.eid) (element 0x82 (uint p.association)) (element 0x83 (uint p.counter)) last)
    ∙ rw (value_again eim_id_codec 0x80 p.eim second (omega arith) (omega (arith, fits.eim.few)) fits.eim)
    (rw (value_again eid_codec 0x81 p.eid third (omega arith) (omega (arith, fits.eid.len)) fits.eid)
    (rw (value_again card_number_codec 0x82 p.association fourth (omega arith) (omega (arith, number_few p.association fits.association.fits)) fits.association)
    (rw (value_again counter_codec 0x83 p.counter last (omega arith) (omega (arith, counter_few p.counter fits.counter.fits)) fits.counter)
    (rw (body_codec.again p.body fits.body) refl))))

package_codec : IsCodec package_of package_fields IsPackage
package_codec = record { takes = package_takes; again = package_again }

content_takes : (content : List ℕ) (s : Signed) → IsBytes content → signed_of content ≡ Some s → (content ≡ signed_content s) × IsSigned s
unfolding signed_of signed_content inner_package
content_takes content s fits e =
    on_field 0x30 content _ s fits e (λ inner f e1.
    on_some (package_of inner.content) _ s e1 (λ made read e2.
    on_only 0x86 inner.rest _ s f.rest e2 (λ sign g e3.
    on_test (nat_le (length sign) 128) sign _ s e3 (λ few e4.
    let t = package_codec.takes inner.content made f.content read in
    let whole : content ≡ element 0x30 (package_fields made) ++ element 0x86 sign = f.parts ∙ ap (λ (c : List ℕ). element 0x30 c ++ inner.rest) t.0 ∙ followed _ _ _ g.octets in
    subst (λ (q : Signed). (content ≡ element 0x30 (package_fields q.«package») ++ element 0x86 q.signature) × IsSigned q) (same_Some _ _ e4)
    (whole, record { «package» = t.1; signature = record { few = leb-true (length sign) 128 few; each = AllPass-from_bounds sign g.within } })))))

content_again : (s : Signed) → IsSigned s → signed_of (signed_content s) ≡ Some s
unfolding signed_of signed_content inner_package
content_again s fits =
    let fields = package_fields s.«package» in
    rw (field_again 0x30 fields (element 0x86 s.signature) (omega arith) (omega (arith, fields_few s.«package» fits.«package»)))
    (rw (package_codec.again s.«package» fits.«package»)
    (rw (only_again 0x86 s.signature (omega arith) (omega (arith, fits.signature.few)))
    (rw (only_if_again (nat_le (length s.signature) 128) s.signature (le-leb (length s.signature) 128 fits.signature.few)) refl)))

content_codec : IsCodec signed_of signed_content IsSigned
content_codec = record { takes = content_takes; again = content_again }

content_few : (s : Signed) → IsSigned s → length (signed_content s) ≤ 3481
unfolding signed_content inner_package
content_few s fits =
    let fields = package_fields s.«package» in
    omega (
      arith,
      length-append (element 0x30 fields) (element 0x86 s.signature),
      long 0x30 fields 3346 (fields_few s.«package» fits.«package») (omega arith),
      middle 0x86 s.signature 128 fits.signature.few (omega arith),
    )

pub signed_few : (s : Signed) → IsSigned s → length (signed s) ≤ 3485
unfolding signed
signed_few s fits = long 0x30 (signed_content s) 3481 (content_few s fits) (omega arith)

-- signed packages and their octets
pub signed_codec : IsCodec signed_at signed IsSigned
unfolding signed_at signed
signed_codec = record_codec content_codec 0x30 (omega arith) (λ s fits. omega (arith, content_few s fits))

pub signed_takes : (bytes : List ℕ) (s : Signed) → IsBytes bytes → signed_at bytes ≡ Some s → IsSigned s × (bytes ≡ signed s)
signed_takes bytes s fits e = let t = signed_codec.takes bytes s fits e in (t.1, t.0)

pub signed_again : (s : Signed) → IsSigned s → signed_at (signed s) ≡ Some s
signed_again s fits = signed_codec.again s fits

pub signed_split : OneSpelling signed IsSigned
unfolding signed
signed_split = one_spelling (record_listed content_codec 0x30 (omega arith) (λ s fits. omega (arith, content_few s fits)))
