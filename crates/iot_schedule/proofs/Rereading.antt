-- Each word that is spelled is read again.
use Rattle.std.proofs.Common.{◌≡◌, ◌≢◌, ℕ, ◌^◌, ◌<◌, ◌≤◌, Bool, true, false, List, [], ◌∷◌, ◌++◌, length, Some, refl, ap, arith}
use Rattle.std.specs.Prelude.{◌&&◌, nat_le, codes}
use Rattle.std.specs.List.{AllPass}
use Rattle.std.specs.Fmt.{decimal}
use Rattle.std.proofs.lemmas.Bool.{le-leb, and_from}
use Rattle.hex.proofs.HexLemmas.{decode_of-encode_lower, length-encode_with}
use Rattle.hex.specs.Hex.{lower_digits}
use Rattle.iot_bytes.specs.Hexes.{hex}
use Rattle.sgp_fields.proofs.Steps.{only_if_again}
use Rattle.sgp_values.specs.Iccids.{IsIccid}
use Rattle.sgp_values.specs.Eids.{IsEid}
use Rattle.sgp_values.specs.Ranges.{IsAddress, IsKey, IsNickname, is_octet}
use Rattle.sgp_values.proofs.Octets.{nickname_octets, bounds_from_AllPass}
use Rattle.sgp_values.proofs.Reading.{iccid_again, eid_again, address_again, key_again, nickname_again}
use Rattle.small_card.specs.Lists.{same}
use Rattle.small_card.specs.Ranges.{IsProfile}
use Rattle.small_card.specs.declared.types.Profile.{Profile}
use Rattle.small_card.proofs.ListLemmas.{same_yes}
use Rattle.chip_port.specs.declared.chip.Tear.{Tear}
use Rattle.chip_port.specs.declared.chip.Tear.TheVariants.{Old, New, Half, Junk}
use Rattle.iot_schedule.specs.declared.types.Pick.{Pick}
use Rattle.iot_schedule.specs.declared.types.Pick.TheVariants.{At, Last}
use Rattle.iot_schedule.specs.Tokens.{octets_of, hex_of, number_of, eid_word, iccid_word, address_word, key_digits, key_word, nickname_digits, profile_word, pick_word, bytes_word, tear_word}
use Rattle.iot_schedule.specs.Spelling.{address_text, key_text, sign_text, profile_text, pick_text, bytes_text, tear_text}
use Rattle.iot_schedule.specs.Ranges.{IsPick}
use Rattle.iot_schedule.proofs.Deciding.{decimal_again}
use Rattle.iot_schedule.proofs.Lacking.{lacks, hex_lacks, decimal_lacks, cut_front, cut_rest}

pub hex_again : (octets : List ℕ) → AllPass is_octet octets → hex_of (hex octets) ≡ Some octets
unfolding hex_of
hex_again octets each = ap octets_of (decode_of-encode_lower octets (bounds_from_AllPass octets each))

pub number_again : (least greatest n : ℕ) → least ≤ n → n ≤ greatest → n < 2 ^ 64 → number_of least greatest (decimal n) ≡ Some n
unfolding number_of
number_again least greatest n low high small =
    rw (decimal_again n small) (only_if_again (nat_le least n && nat_le n greatest) n (and_from (nat_le least n) (nat_le n greatest) (le-leb least n low) (le-leb n greatest high)))

pub eid_word_again : (eid : List ℕ) → IsEid eid → eid_word (hex eid) ≡ Some eid
unfolding eid_word
eid_word_again eid fits = rw (hex_again eid fits.each) (eid_again eid fits)

pub iccid_word_again : (iccid : List ℕ) → IsIccid iccid → iccid_word (hex iccid) ≡ Some iccid
unfolding iccid_word
iccid_word_again iccid fits = rw (hex_again iccid fits.each) (iccid_again iccid fits)

pub address_word_again : (address : List ℕ) → IsAddress address → address_word (address_text address) ≡ Some address
unfolding address_word
address_word_again address fits = address_again address fits

pub key_digits_again : (key : List ℕ) → IsKey key → key_digits (hex key) ≡ Some key
unfolding key_digits
key_digits_again key fits = rw (hex_again key fits.each) (key_again key fits)

pub key_word_again : (key : List ℕ) → IsKey key → key_word (key_text key) ≡ Some key
unfolding key_word
key_word_again key fits = key_digits_again key fits

nickname_digits_again : (name : List ℕ) → IsNickname name → nickname_digits (hex name) ≡ Some name
unfolding nickname_digits
nickname_digits_again name fits = rw (hex_again name (nickname_octets name fits)) (nickname_again name fits)

signed_again : (enabled : Bool) (iccid name : List ℕ) → IsIccid iccid → IsNickname name → profile_word (sign_text enabled ++ (hex iccid ++ (codes "%" ++ hex name))) ≡ Some (record { iccid = iccid; enabled = enabled; nickname = name })
unfolding profile_word
signed_again true iccid name fits named =
    let out = hex_lacks 37 refl iccid fits.each in
    rw (cut_front 37 (hex iccid) (hex name) out) (rw (iccid_word_again iccid fits) (rw (cut_rest 37 (hex iccid) (hex name) out) (rw (nickname_digits_again name named) refl)))
signed_again false iccid name fits named =
    let out = hex_lacks 37 refl iccid fits.each in
    rw (cut_front 37 (hex iccid) (hex name) out) (rw (iccid_word_again iccid fits) (rw (cut_rest 37 (hex iccid) (hex name) out) (rw (nickname_digits_again name named) refl)))

other_word : (mark : ℕ) (text word : List ℕ) (test : Bool) → same text word ≡ test → lacks mark text ≡ true → lacks mark word ≡ false → test ≡ false
other_word mark text word true is out inside = absurd (cc (ap (lacks mark) (same_yes text word is), out, inside))
other_word mark text word false is out inside = refl

other_length : (text word : List ℕ) (test : Bool) → same text word ≡ test → (length text ≡ length word → ⊥) → test ≡ false
other_length text word true is apart = absurd (apart (ap length (same_yes text word is)))
other_length text word false is apart = refl

-- a number isn't the word `last`, in which the letter l stands
decimal_not_last : (n : ℕ) → n < 2 ^ 64 → same (decimal n) (codes "last") ≡ false
decimal_not_last n small = other_word 108 (decimal n) (codes "last") (same (decimal n) (codes "last")) refl (decimal_lacks 108 (λ h. absurd (omega (arith, h))) n small) refl

pub pick_again : (pick : Pick) → IsPick pick → pick_word (pick_text pick) ≡ Some pick
unfolding pick_word
pick_again (At n) fits =
    let small : n < 2 ^ 64 = omega (arith, fits) in
    rw (decimal_not_last n small) (rw (number_again 0 4294967295 n (omega arith) fits small) refl)
pick_again Last fits = refl

pub tear_again : (tear : Tear) → tear_word (tear_text tear) ≡ Some tear
unfolding tear_word
tear_again Old = refl
tear_again New = refl
tear_again Half = refl
tear_again Junk = refl

pub profile_again : (p : Profile) → IsProfile p → profile_word (profile_text p) ≡ Some p
unfolding profile_text
profile_again p fits = signed_again p.enabled p.iccid p.nickname fits.iccid fits.nickname

digits_some : (b : ℕ) (bs : List ℕ) → same (hex (b ∷ bs)) (codes "-") ≡ false
digits_some b bs = other_length (hex (b ∷ bs)) (codes "-") (same (hex (b ∷ bs)) (codes "-")) refl (λ e. absurd (omega (arith, length-encode_with lower_digits (b ∷ bs), e)))

some_digits : (text octets : List ℕ) → length text ≢ 0 → same text (codes "-") ≡ false → hex_of text ≡ Some octets → bytes_word text ≡ Some octets
unfolding bytes_word
some_digits [] octets some is e = absurd (some refl)
some_digits (c ∷ cs) octets some is e = rw is e

pub bytes_again : (bytes : List ℕ) → AllPass is_octet bytes → bytes_word (bytes_text bytes) ≡ Some bytes
unfolding bytes_word
bytes_again [] each = refl
bytes_again (b ∷ bs) each = some_digits (hex (b ∷ bs)) (b ∷ bs) (λ e. absurd (omega (arith, length-encode_with lower_digits (b ∷ bs), e))) (digits_some b bs) (hex_again (b ∷ bs) each)
