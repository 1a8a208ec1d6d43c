-- A command that is read was spelled so, and one that is spelled is read again.
use Rattle.std.proofs.Common.{◌≡◌, ℕ, ◌≤◌, Bool, List, [], ◌++◌, length, Some, refl, ap, subst, arith, length-append}
use Rattle.sgp_der.specs.Element.{element}
use Rattle.sgp_der.proofs.Fields.{on_some, only_again}
use Rattle.sgp_values.proofs.Octets.{AllPass-from_bounds}
use Rattle.sgp_values.specs.Eids.{IsEid}
use Rattle.sgp_fields.specs.Values.{flag_content}
use Rattle.sgp_fields.specs.Alone.{number_alone}
use Rattle.sgp_fields.specs.Config.{config_content, IsConfig}
use Rattle.sgp_fields.proofs.Codecs.{IsCodec, IsListed, IsSpelled, IsTaken}
use Rattle.sgp_fields.proofs.Elements.{on_tag, whole_codec, short_from_bytes}
use Rattle.sgp_fields.proofs.AloneCodec.{card_number_alone_codec, on_made, made_again}
use Rattle.sgp_fields.proofs.ConfigCodec.{config_codec, config_few}
use Rattle.sgp_fields.proofs.Steps.{on_value, on_only, value_again}
use Rattle.sgp_fields.proofs.ValueCodecs.{eid_codec, flag_codec, flag_few, mark_codec}
use Rattle.sgp_fields.proofs.Sizes.{short, long}
use Rattle.small_card.specs.Ranges.{IsCommand, IsTable}
use Rattle.small_card.specs.declared.types.Profile.{Profile}
use Rattle.small_card.specs.declared.types.Command.{Command}
use Rattle.small_card.specs.declared.types.Command.TheVariants as order
use Rattle.result_codec.specs.Spelling.{profiles}
use Rattle.result_codec.specs.Reading.{profiles_at}
use Rattle.result_codec.proofs.TableCodec.{profiles_codec, profiles_few}
use Rattle.std.proofs.lemmas.Option.{same_Some}
use Rattle.iot_bytes.proofs.Framing.{IsBytes}
use Rattle.es10_codec.specs.Spelling.{personalise_content, load_content, command, IsShort, IsSpellable}
use Rattle.es10_codec.specs.Reading.{personalise_of, load_of, initial, command_of, command_at}
use Rattle.es10_codec.proofs.Short.{inner_short, alone_few}

Taken : ℕ → List ℕ → Command → Type 0
Taken tag content c = IsTaken command IsSpellable tag content c

personalise_taken : (content : List ℕ) (c : Command) → IsBytes content → personalise_of content ≡ Some c → Taken 0xa0 content c
unfolding Taken personalise_of command IsCommand IsShort personalise_content
personalise_taken content c fits e =
    on_value eid_codec 0x80 content _ c fits e (λ eid rest a e1.
    on_only 0xa1 rest _ c a.others e1 (λ inner w e2.
    on_some (profiles_at inner) _ c e2 (λ rows r e3.
    let t = profiles_codec.takes inner rows w.within r in
    let whole : content ≡ element 0x80 eid ++ element 0xa1 (profiles rows) = cc (a.parts, w.octets, t.0) in
    subst (λ (x : Command). IsTaken command IsSpellable 0xa0 content x) (same_Some _ _ e3) (record { octets = ap (element 0xa0) whole; fits = record { range = (a.fits, t.1); short = tt } }))))

load_taken : (content : List ℕ) (c : Command) → IsBytes content → length content ≤ 16777215 → load_of content ≡ Some c → Taken 0xa1 content c
unfolding Taken load_of command IsCommand IsShort load_content
load_taken content c fits few e =
    on_value flag_codec 0x80 content _ c fits e (λ good rest a e1.
    on_only 0x81 rest _ c a.others e1 (λ bytes w e2.
    let whole : content ≡ element 0x80 (flag_content good) ++ element 0x81 bytes = cc (a.parts, w.octets) in
    let fit : length (element 0x80 (flag_content good) ++ element 0x81 bytes) ≤ 16777215 = subst (λ (x : List ℕ). length x ≤ 16777215) whole few in
    subst (λ (x : Command). IsTaken command IsSpellable 0xa1 content x) (same_Some _ _ e2) (record { octets = ap (element 0xa1) whole; fits = record { range = AllPass-from_bounds bytes w.within; short = fit } })))

command_taken : (tag : ℕ) (content : List ℕ) (c : Command) → IsBytes content → length content ≤ 16777215 → command_of tag content ≡ Some c → IsTaken command IsSpellable tag content c
unfolding Taken command_of command IsCommand IsShort
command_taken tag content c fits few e =
    on_tag tag 0xa0 content _ _ c e (personalise_taken content c fits) (λ e1.
    on_tag tag 0xa1 content _ _ c e1 (load_taken content c fits few) (λ e2.
    on_made mark_codec (λ m. order.Rollback) tag 0x82 content _ c fits e2 (λ m h. record { octets = refl; fits = record { range = tt; short = tt } }) (λ e3.
    on_made card_number_alone_codec order.Remove tag 0xa3 content _ c fits e3 (λ seq h. record { octets = refl; fits = record { range = h; short = tt } }) (λ e4.
    on_made mark_codec (λ m. order.Results) tag 0x84 content _ c fits e4 (λ m h. record { octets = refl; fits = record { range = tt; short = tt } }) (λ e5.
    on_made mark_codec (λ m. order.Eims) tag 0x85 content _ c fits e5 (λ m h. record { octets = refl; fits = record { range = tt; short = tt } }) (λ e6.
    on_made config_codec initial tag 0xa6 content _ c fits e6 (λ d h. record { octets = refl; fits = record { range = (h.id, h.address, h.key); short = tt } }) (λ e7.
    absurd cc)))))))

personalise_again : (eid : List ℕ) (ps : List Profile) → IsEid eid → IsTable ps → personalise_of (personalise_content eid ps) ≡ Some (order.Personalise eid ps)
unfolding personalise_of personalise_content
personalise_again eid ps h t =
    rw (value_again eid_codec 0x80 eid (element 0xa1 (profiles ps)) (omega arith) (omega (arith, h.len)) h)
    (rw (only_again 0xa1 (profiles ps) (omega arith) (omega (arith, profiles_few ps t)))
    (rw (profiles_codec.again ps t) refl))

load_again : (good : Bool) (bytes : List ℕ) → length bytes ≤ 16777215 → load_of (load_content good bytes) ≡ Some (order.Load good bytes)
unfolding load_of load_content
load_again good bytes few =
    rw (value_again flag_codec 0x80 good (element 0x81 bytes) (omega arith) (omega (arith, flag_few good)) tt)
    (rw (only_again 0x81 bytes (omega arith) few) refl)

personalise_few : (eid : List ℕ) (ps : List Profile) → IsEid eid → IsTable ps → length (personalise_content eid ps) ≤ 1350
unfolding personalise_content
personalise_few eid ps h t =
    omega (
      arith,
      length-append (element 0x80 eid) (element 0xa1 (profiles ps)),
      short 0x80 eid 16 (omega (arith, h.len)) (omega arith),
      long 0xa1 (profiles ps) 1328 (profiles_few ps t) (omega arith),
    )

configured : (id address key : List ℕ) → IsCommand (order.Initial id address key) → IsConfig (record { id = id; address = address; key = key })
unfolding IsCommand
configured id address key h = record { id = h.0; address = h.1; key = h.2 }

initial_few : (id address key : List ℕ) → IsCommand (order.Initial id address key) → length (config_content id address key) ≤ 393
initial_few id address key h = config_few (record { id = id; address = address; key = key }) (configured id address key h)

spelled_again : (c : Command) → IsCommand c → IsShort c → IsSpelled command_of command c
unfolding command IsCommand IsShort command_of load_content
spelled_again (order.Personalise eid ps) h s = record { tag = 0xa0; content = personalise_content eid ps; octets = refl; low = omega arith; few = omega (arith, personalise_few eid ps h.0 h.1); read = personalise_again eid ps h.0 h.1 }
spelled_again (order.Load good bytes) h s = record { tag = 0xa1; content = load_content good bytes; octets = refl; low = omega arith; few = s; read = load_again good bytes (inner_short (element 0x80 (flag_content good)) bytes 0x81 s) }
spelled_again order.Rollback h s = record { tag = 0x82; content = []; octets = refl; low = omega arith; few = omega arith; read = made_again mark_codec (λ m. order.Rollback) tt tt }
spelled_again (order.Remove seq) h s = record { tag = 0xa3; content = number_alone seq; octets = refl; low = omega arith; few = omega (arith, alone_few seq h.fits); read = made_again card_number_alone_codec order.Remove seq h }
spelled_again order.Results h s = record { tag = 0x84; content = []; octets = refl; low = omega arith; few = omega arith; read = made_again mark_codec (λ m. order.Results) tt tt }
spelled_again order.Eims h s = record { tag = 0x85; content = []; octets = refl; low = omega arith; few = omega arith; read = made_again mark_codec (λ m. order.Eims) tt tt }
spelled_again (order.Initial id address key) h s = record { tag = 0xa6; content = config_content id address key; octets = refl; low = omega arith; few = omega (arith, initial_few id address key h); read = made_again config_codec initial (record { id = id; address = address; key = key }) (configured id address key h) }

-- commands and their elements
pub command_listed : IsListed command_of command IsSpellable
command_listed = record { takes = command_taken; again = λ c h. spelled_again c h.range h.short }

-- commands and their octets
pub command_codec : IsCodec command_at command IsSpellable
unfolding command_at
command_codec = whole_codec command_listed

-- a command whose spelling is octets has no element that is too long
pub short_command : (c : Command) → IsBytes (command c) → IsShort c
unfolding command IsShort
short_command (order.Personalise eid ps) h = tt
short_command (order.Load good bytes) h = short_from_bytes 0xa1 (load_content good bytes) h
short_command order.Rollback h = tt
short_command (order.Remove seq) h = tt
short_command order.Results h = tt
short_command order.Eims h = tt
short_command (order.Initial id address key) h = tt
