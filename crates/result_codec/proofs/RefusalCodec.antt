-- A refusal that is read was spelled so, and one that is spelled is read again.
use Rattle.std.proofs.Common.{◌≡◌, ◌≢◌, ℕ, ◌≤◌, true, List, ◌++◌, length, Some, ap, subst, ◌∙◌, arith, inl, inr, append_assoc, length-append}
use Rattle.std.specs.Prelude.{◌==◌, ◌&&◌}
use Rattle.std.proofs.lemmas.Bool.{eqb-true, eq-eqb, or_cases, and_parts, and_from, or_left, or_right, cases_eq}
use Rattle.sgp_der.specs.Element.{element}
use Rattle.sgp_der.specs.Number.{uint}
use Rattle.sgp_der.proofs.Fields.{guard_some}
use Rattle.sgp_fields.specs.Values.{number_of}
use Rattle.sgp_fields.proofs.Codecs.{IsCodec, IsValue, IsLast}
use Rattle.sgp_fields.proofs.Steps.{on_value, on_last, value_again, last_again, only_if_again}
use Rattle.sgp_fields.proofs.ValueCodecs.{IsIn, number_codec}
use Rattle.sgp_fields.proofs.Numbers.{up_to_codec, IsUpTo}
use Rattle.sgp_fields.proofs.Sizes.{short, code_few, counter_few}
use Rattle.small_card.specs.Ranges.{IsRefused, greatest_counter}
use Rattle.small_card.specs.declared.types.Refused.{Refused}
use Rattle.iot_bytes.proofs.Framing.{IsBytes}
use Rattle.result_codec.specs.Spelling.{refusal}
use Rattle.result_codec.specs.Reading.{may_carry, refusal_of}

code_codec : IsCodec (number_of 1 8) uint (IsIn 1 8)
code_codec = number_codec 1 8 (omega arith)

kept_codec : IsCodec (number_of 0 greatest_counter) uint (IsUpTo greatest_counter)
kept_codec = up_to_codec greatest_counter (omega arith)

carries : (code kept received : ℕ) → may_carry code kept received ≡ true → code ≢ 6 → (kept ≡ 0) × (received ≡ 0)
carries code kept received e ne =
    elim (or_cases (code == 6) (kept == 0 && received == 0) e) [
      | inl six ↦ absurd (ne (eqb-true code 6 six))
      | inr zeros ↦ let k = and_parts (kept == 0) (received == 0) zeros in (eqb-true kept 0 k.0, eqb-true received 0 k.1)
    ]

carries_again : (code kept received : ℕ) → (code ≢ 6 → (kept ≡ 0) × (received ≡ 0)) → may_carry code kept received ≡ true
carries_again code kept received zeros =
    elim (cases_eq code 6) [
      | inl six ↦ or_left (code == 6) (kept == 0 && received == 0) (eq-eqb code 6 six)
      | inr ne ↦ or_right (code == 6) (kept == 0 && received == 0) (and_from (kept == 0) (received == 0) (eq-eqb kept 0 (zeros ne).0) (eq-eqb received 0 (zeros ne).1))
    ]

refusal_made : (content r1 r2 : List ℕ) (code kept received : ℕ) (r : Refused)
    → IsValue uint (IsIn 1 8) 0x80 content code r1 → IsValue uint (IsUpTo greatest_counter) 0x81 r1 kept r2 → IsLast uint (IsUpTo greatest_counter) 0x82 r2 received
    → may_carry code kept received ≡ true → record { code = code; kept = kept; received = received } ≡ r → (content ≡ refusal r) × IsRefused r
unfolding refusal
refusal_made content r1 r2 code kept received r a b c carry is =
    let whole : content ≡ element 0x80 (uint code) ++ (element 0x81 (uint kept) ++ element 0x82 (uint received)) = cc (a.parts, b.parts, c.octets) in
    let grouped : content ≡ element 0x80 (uint code) ++ element 0x81 (uint kept) ++ element 0x82 (uint received) = simp append_assoc whole in
    subst (λ (x : Refused). (content ≡ element 0x80 (uint x.code) ++ element 0x81 (uint x.kept) ++ element 0x82 (uint x.received)) × IsRefused x) is
    (grouped, record { some = a.fits.low; few = a.fits.high; kept = b.fits; received = c.fits; others = carries code kept received carry })

refusal_takes : (content : List ℕ) (r : Refused) → IsBytes content → refusal_of content ≡ Some r → (content ≡ refusal r) × IsRefused r
unfolding refusal_of
refusal_takes content r fits e =
    on_value code_codec 0x80 content _ r fits e (λ code r1 a e1.
    on_value kept_codec 0x81 r1 _ r a.others e1 (λ kept r2 b e2.
    on_last kept_codec 0x82 r2 _ r b.others e2 (λ received c e3.
    let g = guard_some (may_carry code kept received) (record { code = code; kept = kept; received = received }) r e3 in
    refusal_made content r1 r2 code kept received r a b c g.0 g.1)))

refusal_again : (r : Refused) → IsRefused r → refusal_of (refusal r) ≡ Some r
unfolding refusal_of refusal
refusal_again r h =
    let code = element 0x80 (uint r.code) in
    let kept = element 0x81 (uint r.kept) in
    let received = element 0x82 (uint r.received) in
    let grouped : code ++ kept ++ received ≡ code ++ (kept ++ received) = simp append_assoc in
    ap refusal_of grouped
    ∙ rw (value_again code_codec 0x80 r.code (kept ++ received) (omega arith) (omega (arith, code_few r.code (omega (arith, h.few)))) (record { low = h.some; high = h.few }))
    (rw (value_again kept_codec 0x81 r.kept received (omega arith) (omega (arith, counter_few r.kept h.kept)) h.kept)
    (rw (last_again kept_codec 0x82 r.received (omega arith) (omega (arith, counter_few r.received h.received)) h.received)
    (only_if_again (may_carry r.code r.kept r.received) r (carries_again r.code r.kept r.received h.others))))

-- refusals and their contents
pub refusal_codec : IsCodec refusal_of refusal IsRefused
refusal_codec = record { takes = refusal_takes; again = refusal_again }

-- a refusal has at most 23 octets
pub refusal_few : (r : Refused) → IsRefused r → length (refusal r) ≤ 23
unfolding refusal
refusal_few r h =
    omega (
      arith,
      length-append (element 0x80 (uint r.code) ++ element 0x81 (uint r.kept)) (element 0x82 (uint r.received)),
      length-append (element 0x80 (uint r.code)) (element 0x81 (uint r.kept)),
      short 0x80 (uint r.code) 1 (code_few r.code (omega (arith, h.few))) (omega arith),
      short 0x81 (uint r.kept) 8 (counter_few r.kept h.kept) (omega arith),
      short 0x82 (uint r.received) 8 (counter_few r.received h.received) (omega arith),
    )
