-- A message to the assistant that is read was spelled so, and one that is spelled is read again.
use Rattle.std.proofs.Common.{◌≡◌, ℕ, ◌≤◌, List, [], length, Some, refl, subst, arith}
use Rattle.sgp_der.specs.Number.{uint}
use Rattle.sgp_der.proofs.Elements.{element_few}
use Rattle.sgp_values.proofs.Octets.{AllPass-from_bounds}
use Rattle.small_card.specs.Ranges.{IsNumber}
use Rattle.sgp_fields.specs.Alone.{number_alone}
use Rattle.sgp_fields.proofs.AloneCodec.{card_number_alone_codec, on_made, made_again}
use Rattle.sgp_fields.proofs.Codecs.{IsCodec, IsListed, IsSpelled, IsTaken}
use Rattle.sgp_fields.proofs.Elements.{on_tag, whole_codec}
use Rattle.sgp_fields.proofs.Sizes.{short, long, number_few}
use Rattle.sgp_fields.proofs.ValueCodecs.{mark_codec}
use Rattle.std.proofs.lemmas.Option.{same_Some}
use Rattle.iot_bytes.proofs.Framing.{IsBytes}
use Rattle.esipa_codec.specs.Ranges.{IsToIpa}
use Rattle.esipa_codec.specs.Reading.{to_ipa_of, to_ipa_at}
use Rattle.esipa_codec.specs.Spelling.{to_ipa}
use Rattle.esipa_codec.specs.declared.messages.ToIpa.{ToIpa}
use Rattle.esipa_codec.specs.declared.messages.ToIpa.TheVariants as down

package_taken : (content : List ℕ) (m : ToIpa) → IsBytes content → length content ≤ 16777215 → Some (down.Package content) ≡ Some m → IsTaken to_ipa IsToIpa 0x80 content m
unfolding to_ipa IsToIpa
package_taken content m fits few e = subst (λ (x : ToIpa). IsTaken to_ipa IsToIpa 0x80 content x) (same_Some _ _ e) (record { octets = refl; fits = record { few = few; each = AllPass-from_bounds content fits } })

taken : (tag : ℕ) (content : List ℕ) (m : ToIpa) → IsBytes content → length content ≤ 16777215 → to_ipa_of tag content ≡ Some m → IsTaken to_ipa IsToIpa tag content m
unfolding to_ipa_of to_ipa IsToIpa
taken tag content m fits few e =
    on_tag tag 0x80 content _ _ m e (package_taken content m fits few) (λ e1.
    on_made mark_codec (λ u. down.Nothing) tag 0x81 content _ m fits e1 (λ u h. record { octets = refl; fits = tt }) (λ e2.
    on_made card_number_alone_codec down.Ack tag 0xa2 content _ m fits e2 (λ seq h. record { octets = refl; fits = h }) (λ e3.
    absurd cc)))

ack_few : (seq : ℕ) → IsNumber seq → length (number_alone seq) ≤ 7
ack_few seq h = short 0x80 (uint seq) 5 (number_few seq h.fits) (omega arith)

again : (m : ToIpa) → IsToIpa m → IsSpelled to_ipa_of to_ipa m
unfolding to_ipa_of to_ipa IsToIpa
again (down.Package bytes) h = record {
  tag = 0x80;
  content = bytes;
  octets = refl;
  low = omega arith;
  few = h.few;
  read = refl;
}
again down.Nothing h = record {
  tag = 0x81;
  content = [];
  octets = refl;
  low = omega arith;
  few = omega arith;
  read = made_again mark_codec (λ u. down.Nothing) tt tt;
}
again (down.Ack seq) h = record {
  tag = 0xa2;
  content = number_alone seq;
  octets = refl;
  low = omega arith;
  few = omega (arith, ack_few seq h);
  read = made_again card_number_alone_codec down.Ack seq h;
}

-- messages to the assistant and their elements
pub to_ipa_listed : IsListed to_ipa_of to_ipa IsToIpa
to_ipa_listed = record { takes = taken; again = again }

-- and their octets
pub to_ipa_codec : IsCodec to_ipa_at to_ipa IsToIpa
unfolding to_ipa_at
to_ipa_codec = whole_codec to_ipa_listed

-- the greatest carries as many octets as three length octets say
pub to_ipa_few : (m : ToIpa) → IsToIpa m → length (to_ipa m) ≤ 16777220
unfolding to_ipa IsToIpa
to_ipa_few (down.Package bytes) h = omega (arith, element_few 0x80 bytes, h.few)
to_ipa_few down.Nothing h = omega (arith, element_few 0x81 [])
to_ipa_few (down.Ack seq) h = omega (arith, element_few 0xa2 (number_alone seq), ack_few seq h)

-- a signed package has at most 3,485 octets
pub package_few : (bytes : List ℕ) → length bytes ≤ 3485 → length (to_ipa (down.Package bytes)) ≤ 3489
unfolding to_ipa
package_few bytes few = long 0x80 bytes 3485 few (omega arith)
