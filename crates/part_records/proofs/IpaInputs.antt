-- What comes to an assistant: what is read was spelled so, and what is spelled is read again.
use Rattle.std.proofs.Common.{◌≡◌, ℕ, ◌≤◌, Bool, List, [], ◌++◌, length, Some, refl, ap, subst, arith, length-append}
use Rattle.std.specs.Prelude.{nat_le}
use Rattle.std.proofs.lemmas.Bool.{leb-true, le-leb}
use Rattle.iot_bytes.specs.declared.frame.TheConstants.{FRAME_LIMIT}
use Rattle.sgp_der.specs.Element.{element}
use Rattle.sgp_der.proofs.Elements.{length-element}
use Rattle.sgp_fields.specs.Laws.{OneSpelling}
use Rattle.sgp_fields.specs.Values.{flag_content}
use Rattle.sgp_fields.specs.Elements.{whole_at}
use Rattle.sgp_fields.proofs.AloneCodec.{on_made, made_again}
use Rattle.sgp_fields.proofs.Codecs.{IsCodec, IsListed, IsSpelled, IsTaken}
use Rattle.sgp_fields.proofs.Elements.{on_tag, tagged_some, whole_codec, one_spelling}
use Rattle.sgp_fields.proofs.Steps.{on_value, on_last, value_again, last_again}
use Rattle.sgp_fields.proofs.ValueCodecs.{eim_id_codec, flag_codec, flag_few, mark_codec}
use Rattle.sgp_values.specs.Ranges.{IsEimId}
use Rattle.es10_codec.specs.Spelling.{answer}
use Rattle.es10_codec.proofs.AnswerCodec.{answer_codec, answer_few}
use Rattle.esipa_codec.specs.Ranges.{IsToIpa}
use Rattle.esipa_codec.specs.Spelling.{to_ipa}
use Rattle.esipa_codec.specs.declared.messages.ToIpa.{ToIpa}
use Rattle.esipa_codec.proofs.ToIpaCodec.{to_ipa_codec}
use Rattle.std.proofs.lemmas.Option.{same_Some}
use Rattle.iot_bytes.proofs.Framing.{IsBytes}
use Rattle.part_records.specs.Ranges.{IsIpaInput}
use Rattle.part_records.specs.Reading.{message_of, ipa_input_of, ipa_input_at}
use Rattle.part_records.specs.Spelling.{message_content, ipa_input, IsFramable}
use Rattle.part_records.specs.declared.records.IpaInput.{IpaInput}
use Rattle.part_records.specs.declared.records.IpaInput.TheVariants as ipa_in

-- a message that an element of three length octets can carry
unfoldable pub IsShort : IpaInput → Type 0
IsShort (ipa_in.Message from good m) = length (message_content from good m) ≤ 16777215
IsShort (ipa_in.Probe passed) = Unit {0}
IsShort ipa_in.Restart = Unit {0}
IsShort ipa_in.Push = Unit {0}
IsShort (ipa_in.Answered a) = Unit {0}
IsShort (ipa_in.Poll id) = Unit {0}

pub record IsSpellable (x : IpaInput) : Type 0 where
  pub range : IsIpaInput x
  pub short : IsShort x

message_taken : (content : List ℕ) (x : IpaInput) → IsBytes content → length content ≤ 16777215 → message_of content ≡ Some x → IsTaken ipa_input IsSpellable 0xa0 content x
unfolding message_of message_content ipa_input IsIpaInput IsShort
message_taken content x fits few e =
    on_value eim_id_codec 0x80 content _ x fits e (λ from rest a e1.
    on_value flag_codec 0x81 rest _ x a.others e1 (λ good rest1 b e2.
    on_last to_ipa_codec 0xa2 rest1 _ x b.others e2 (λ m c e3.
    let whole : content ≡ element 0x80 from ++ (element 0x81 (flag_content good) ++ element 0xa2 (to_ipa m)) = cc (a.parts, b.parts, c.octets) in
    subst (λ (y : IpaInput). IsTaken ipa_input IsSpellable 0xa0 content y) (same_Some _ _ e3) (record { octets = ap (element 0xa0) whole; fits = record { range = (a.fits, c.fits); short = subst (λ (o : List ℕ). length o ≤ 16777215) whole few } }))))

taken : (tag : ℕ) (content : List ℕ) (x : IpaInput) → IsBytes content → length content ≤ 16777215 → ipa_input_of tag content ≡ Some x → IsTaken ipa_input IsSpellable tag content x
unfolding ipa_input_of ipa_input IsIpaInput IsShort
taken tag content x fits few e =
    on_tag tag 0xa0 content _ _ x e (message_taken content x fits few) (λ e1.
    on_made flag_codec ipa_in.Probe tag 0x81 content _ x fits e1 (λ b h. record { octets = refl; fits = record { range = tt; short = tt } }) (λ e2.
    on_made mark_codec (λ u. ipa_in.Restart) tag 0x82 content _ x fits e2 (λ u h. record { octets = refl; fits = record { range = tt; short = tt } }) (λ e3.
    on_made mark_codec (λ u. ipa_in.Push) tag 0x83 content _ x fits e3 (λ u h. record { octets = refl; fits = record { range = tt; short = tt } }) (λ e4.
    on_made answer_codec ipa_in.Answered tag 0xa4 content _ x fits e4 (λ a h. record { octets = refl; fits = record { range = h; short = tt } }) (λ e5.
    on_made eim_id_codec ipa_in.Poll tag 0x85 content _ x fits e5 (λ id h. record { octets = refl; fits = record { range = h; short = tt } }) (λ e6.
    absurd cc))))))

-- the last of three fields
inner_few : (from : List ℕ) (good : Bool) (m : ToIpa) → length (message_content from good m) ≤ 16777215 → length (to_ipa m) ≤ 16777215
unfolding message_content
inner_few from good m le =
    omega (
      arith,
      le,
      length-append (element 0x80 from) (element 0x81 (flag_content good) ++ element 0xa2 (to_ipa m)),
      length-append (element 0x81 (flag_content good)) (element 0xa2 (to_ipa m)),
      length-element 0xa2 (to_ipa m),
    )

message_again : (from : List ℕ) (good : Bool) (m : ToIpa) → IsEimId from → IsToIpa m → length (to_ipa m) ≤ 16777215 → message_of (message_content from good m) ≡ Some (ipa_in.Message from good m)
unfolding message_of message_content
message_again from good m id range few =
    rw (value_again eim_id_codec 0x80 from (element 0x81 (flag_content good) ++ element 0xa2 (to_ipa m)) (omega arith) (omega (arith, id.few)) id)
    (rw (value_again flag_codec 0x81 good (element 0xa2 (to_ipa m)) (omega arith) (omega (arith, flag_few good)) tt)
    (rw (last_again to_ipa_codec 0xa2 m (omega arith) few range) refl))

spelled : (x : IpaInput) → IsIpaInput x → IsShort x → IsSpelled ipa_input_of ipa_input x
unfolding ipa_input_of ipa_input IsIpaInput IsShort
spelled (ipa_in.Message from good m) h few = record { tag = 0xa0; content = message_content from good m; octets = refl; low = omega arith; few = few; read = message_again from good m h.0 h.1 (inner_few from good m few) }
spelled (ipa_in.Probe passed) h few = record { tag = 0x81; content = flag_content passed; octets = refl; low = omega arith; few = omega (arith, flag_few passed); read = made_again flag_codec ipa_in.Probe passed tt }
spelled ipa_in.Restart h few = record { tag = 0x82; content = []; octets = refl; low = omega arith; few = omega arith; read = made_again mark_codec (λ u. ipa_in.Restart) tt tt }
spelled ipa_in.Push h few = record { tag = 0x83; content = []; octets = refl; low = omega arith; few = omega arith; read = made_again mark_codec (λ u. ipa_in.Push) tt tt }
spelled (ipa_in.Answered a) h few = record { tag = 0xa4; content = answer a; octets = refl; low = omega arith; few = omega (arith, answer_few a h); read = made_again answer_codec ipa_in.Answered a h }
spelled (ipa_in.Poll id) h few = record { tag = 0x85; content = id; octets = refl; low = omega arith; few = omega (arith, h.few); read = made_again eim_id_codec ipa_in.Poll id h }

-- what comes to an assistant and its elements
pub ipa_listed : IsListed ipa_input_of ipa_input IsSpellable
ipa_listed = record { takes = taken; again = λ x h. spelled x h.range h.short }

-- what is no longer than a frame has a spelling
spellable : (x : IpaInput) → IsIpaInput x → length (ipa_input x) ≤ FRAME_LIMIT → IsShort x
unfolding ipa_input IsShort
spellable (ipa_in.Message from good m) h le = omega (arith, le, length-element 0xa0 (message_content from good m))
spellable (ipa_in.Probe passed) h le = tt
spellable ipa_in.Restart h le = tt
spellable ipa_in.Push h le = tt
spellable (ipa_in.Answered a) h le = tt
spellable (ipa_in.Poll id) h le = tt

framed_takes : (bytes : List ℕ) (x : IpaInput) → IsBytes bytes → ipa_input_at bytes ≡ Some x → (bytes ≡ ipa_input x) × IsFramable x
unfolding ipa_input_at
framed_takes bytes x fits e =
    let (short, read) = tagged_some (nat_le (length bytes) FRAME_LIMIT) (whole_at ipa_input_of bytes) x e in
    let (is, range) = (whole_codec ipa_listed).takes bytes x fits read in
    (is, record { range = range.range; short = subst (λ (o : List ℕ). length o ≤ FRAME_LIMIT) is (leb-true (length bytes) FRAME_LIMIT short) })

framed_again : (x : IpaInput) → IsFramable x → ipa_input_at (ipa_input x) ≡ Some x
unfolding ipa_input_at
framed_again x f = rw (le-leb (length (ipa_input x)) FRAME_LIMIT f.short) ((whole_codec ipa_listed).again x (record { range = f.range; short = spellable x f.range f.short }))

-- and its octets, in a frame
pub ipa_codec : IsCodec ipa_input_at ipa_input IsFramable
ipa_codec = record { takes = framed_takes; again = framed_again }

pub ipa_one_spelling : OneSpelling ipa_input IsFramable
ipa_one_spelling = λ a b x y g h e. one_spelling ipa_listed a b x y (record { range = g.range; short = spellable a g.range g.short }) (record { range = h.range; short = spellable b h.range h.short }) e
