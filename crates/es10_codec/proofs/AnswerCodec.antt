-- An answer that is read was spelled so, and one that is spelled is read again.
use Rattle.std.proofs.Common.{◌≡◌, ℕ, ◌+◌, ◌≤◌, List, [], ◌++◌, length, Some, refl, ap, arith, length-append}
use Rattle.sgp_der.proofs.Elements.{element_few}
use Rattle.sgp_fields.specs.Alone.{number_alone, number_alone_of}
use Rattle.sgp_fields.proofs.Codecs.{IsCodec, IsListed, IsSpelled, IsTaken}
use Rattle.sgp_fields.proofs.Elements.{whole_codec}
use Rattle.sgp_fields.proofs.AloneCodec.{number_alone_codec, card_number_alone_codec, on_made, made_again}
use Rattle.sgp_fields.proofs.ValueCodecs.{mark_codec, IsIn}
use Rattle.small_card.specs.Ranges.{IsAnswer}
use Rattle.small_card.specs.declared.types.Answer.{Answer}
use Rattle.small_card.specs.declared.types.Answer.TheVariants as reply
use Rattle.result_codec.specs.Spelling.{eim_lines, result, refusal}
use Rattle.result_codec.proofs.EimListCodec.{eim_lines_codec, eim_lines_few}
use Rattle.result_codec.proofs.ResultCodec.{result_codec, result_few}
use Rattle.result_codec.proofs.RefusalCodec.{refusal_codec, refusal_few}
use Rattle.iot_bytes.proofs.Framing.{IsBytes}
use Rattle.es10_codec.specs.Spelling.{results, answer}
use Rattle.es10_codec.specs.Reading.{answer_of, answer_at}
use Rattle.es10_codec.proofs.Short.{alone_few}
use Rattle.es10_codec.proofs.ResultLists.{results_codec, results_few}

-- the code of an Initial that was refused
code_codec : IsCodec (number_alone_of 1 2) number_alone (IsIn 1 2)
code_codec = number_alone_codec 1 2 (omega arith)

answer_taken : (tag : ℕ) (content : List ℕ) (a : Answer) → IsBytes content → length content ≤ 16777215 → answer_of tag content ≡ Some a → IsTaken answer IsAnswer tag content a
unfolding answer_of answer IsAnswer
answer_taken tag content a fits few e =
    on_made mark_codec (λ m. reply.Personalised) tag 0x80 content _ a fits e (λ m h. record { octets = refl; fits = tt }) (λ e1.
    on_made result_codec reply.Loaded tag 0xa1 content _ a fits e1 (λ r h. record { octets = refl; fits = h }) (λ e2.
    on_made refusal_codec reply.LoadRefused tag 0xa2 content _ a fits e2 (λ r h. record { octets = refl; fits = h }) (λ e3.
    on_made card_number_alone_codec reply.RolledBack tag 0xa3 content _ a fits e3 (λ seq h. record { octets = refl; fits = h }) (λ e4.
    on_made mark_codec (λ m. reply.NotPermitted) tag 0x84 content _ a fits e4 (λ m h. record { octets = refl; fits = tt }) (λ e5.
    on_made mark_codec (λ m. reply.Removed) tag 0x85 content _ a fits e5 (λ m h. record { octets = refl; fits = tt }) (λ e6.
    on_made mark_codec (λ m. reply.Absent) tag 0x86 content _ a fits e6 (λ m h. record { octets = refl; fits = tt }) (λ e7.
    on_made results_codec reply.Results tag 0xa7 content _ a fits e7 (λ rs h. record { octets = refl; fits = h }) (λ e8.
    on_made eim_lines_codec reply.Eims tag 0xa8 content _ a fits e8 (λ es h. record { octets = refl; fits = h }) (λ e9.
    on_made card_number_alone_codec reply.Associated tag 0xa9 content _ a fits e9 (λ n h. record { octets = refl; fits = h }) (λ e10.
    on_made code_codec reply.InitialRefused tag 0xaa content _ a fits e10 (λ code h. record { octets = refl; fits = record { some = h.low; few = h.high } }) (λ e11.
    on_made mark_codec (λ m. reply.Malformed) tag 0x8b content _ a fits e11 (λ m h. record { octets = refl; fits = tt }) (λ e12.
    on_made mark_codec (λ m. reply.AlreadyPersonal) tag 0x8c content _ a fits e12 (λ m h. record { octets = refl; fits = tt }) (λ e13.
    absurd cc)))))))))))))

answer_again : (a : Answer) → IsAnswer a → IsSpelled answer_of answer a
unfolding answer IsAnswer answer_of
answer_again reply.Personalised h = record { tag = 0x80; content = []; octets = refl; low = omega arith; few = omega arith; read = made_again mark_codec (λ m. reply.Personalised) tt tt }
answer_again (reply.Loaded r) h = record { tag = 0xa1; content = result r; octets = refl; low = omega arith; few = omega (arith, result_few r h); read = made_again result_codec reply.Loaded r h }
answer_again (reply.LoadRefused r) h = record { tag = 0xa2; content = refusal r; octets = refl; low = omega arith; few = omega (arith, refusal_few r h); read = made_again refusal_codec reply.LoadRefused r h }
answer_again (reply.RolledBack seq) h = record { tag = 0xa3; content = number_alone seq; octets = refl; low = omega arith; few = omega (arith, alone_few seq h.fits); read = made_again card_number_alone_codec reply.RolledBack seq h }
answer_again reply.NotPermitted h = record { tag = 0x84; content = []; octets = refl; low = omega arith; few = omega arith; read = made_again mark_codec (λ m. reply.NotPermitted) tt tt }
answer_again reply.Removed h = record { tag = 0x85; content = []; octets = refl; low = omega arith; few = omega arith; read = made_again mark_codec (λ m. reply.Removed) tt tt }
answer_again reply.Absent h = record { tag = 0x86; content = []; octets = refl; low = omega arith; few = omega arith; read = made_again mark_codec (λ m. reply.Absent) tt tt }
answer_again (reply.Results rs) h = record { tag = 0xa7; content = results rs; octets = refl; low = omega arith; few = omega (arith, results_few rs h); read = made_again results_codec reply.Results rs h }
answer_again (reply.Eims es) h = record { tag = 0xa8; content = eim_lines es; octets = refl; low = omega arith; few = omega (arith, eim_lines_few es h); read = made_again eim_lines_codec reply.Eims es h }
answer_again (reply.Associated n) h = record { tag = 0xa9; content = number_alone n; octets = refl; low = omega arith; few = omega (arith, alone_few n h.fits); read = made_again card_number_alone_codec reply.Associated n h }
answer_again (reply.InitialRefused code) h = record { tag = 0xaa; content = number_alone code; octets = refl; low = omega arith; few = omega (arith, alone_few code (omega (arith, h.few))); read = made_again code_codec reply.InitialRefused code (record { low = h.some; high = h.few }) }
answer_again reply.Malformed h = record { tag = 0x8b; content = []; octets = refl; low = omega arith; few = omega arith; read = made_again mark_codec (λ m. reply.Malformed) tt tt }
answer_again reply.AlreadyPersonal h = record { tag = 0x8c; content = []; octets = refl; low = omega arith; few = omega arith; read = made_again mark_codec (λ m. reply.AlreadyPersonal) tt tt }

-- answers and their elements
pub answer_listed : IsListed answer_of answer IsAnswer
answer_listed = record { takes = answer_taken; again = answer_again }

-- answers and their octets
pub answer_codec : IsCodec answer_at answer IsAnswer
unfolding answer_at
answer_codec = whole_codec answer_listed

-- an answer has at most 146,477 octets
pub answer_few : (a : Answer) → IsAnswer a → length (answer a) ≤ 146477
unfolding answer IsAnswer
answer_few reply.Personalised h = omega (arith, element_few 0x80 [])
answer_few (reply.Loaded r) h = omega (arith, element_few 0xa1 (result r), result_few r h)
answer_few (reply.LoadRefused r) h = omega (arith, element_few 0xa2 (refusal r), refusal_few r h)
answer_few (reply.RolledBack seq) h = omega (arith, element_few 0xa3 (number_alone seq), alone_few seq h.fits)
answer_few reply.NotPermitted h = omega (arith, element_few 0x84 [])
answer_few reply.Removed h = omega (arith, element_few 0x85 [])
answer_few reply.Absent h = omega (arith, element_few 0x86 [])
answer_few (reply.Results rs) h = omega (arith, element_few 0xa7 (results rs), results_few rs h)
answer_few (reply.Eims es) h = omega (arith, element_few 0xa8 (eim_lines es), eim_lines_few es h)
answer_few (reply.Associated n) h = omega (arith, element_few 0xa9 (number_alone n), alone_few n h.fits)
answer_few (reply.InitialRefused code) h = omega (arith, element_few 0xaa (number_alone code), alone_few code (omega (arith, h.few)))
answer_few reply.Malformed h = omega (arith, element_few 0x8b [])
answer_few reply.AlreadyPersonal h = omega (arith, element_few 0x8c [])

-- octets behind which an answer was appended
pub grown : (old new : List ℕ) (a : Answer) → IsAnswer a → new ≡ old ++ answer a → length new ≤ length old + 146477
grown old new a h e = omega (arith, ap length e, length-append old (answer a), answer_few a h)
