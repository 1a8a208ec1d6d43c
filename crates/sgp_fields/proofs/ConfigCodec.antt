-- A configuration that is read was spelled so, and one that is spelled is read again.
use Rattle.std.proofs.Common.{◌≡◌, ℕ, ◌≤◌, List, ◌++◌, length, Some, refl, ap, subst, ◌∙◌, arith, append_assoc, length-append}
use Rattle.sgp_der.specs.Element.{element}
use Rattle.std.proofs.lemmas.Option.{same_Some}
use Rattle.iot_bytes.proofs.Framing.{IsBytes}
use Rattle.sgp_fields.specs.Config.{config_content, config_of, IsConfig}
use Rattle.sgp_fields.specs.declared.config.EimConfig.{EimConfig}
use Rattle.sgp_fields.proofs.Codecs.{IsCodec}
use Rattle.sgp_fields.proofs.Sizes.{middle}
use Rattle.sgp_fields.proofs.Steps.{on_value, on_last, value_again, last_again}
use Rattle.sgp_fields.proofs.ValueCodecs.{eim_id_codec, address_codec, key_codec}

-- the fields of a configuration
abbrev pub config : EimConfig → List ℕ
config c = config_content c.id c.address c.key

config_takes : (content : List ℕ) (c : EimConfig) → IsBytes content → config_of content ≡ Some c → (content ≡ config c) × IsConfig c
unfolding config_of config_content
config_takes content c fits e =
    on_value eim_id_codec 0x80 content _ c fits e (λ id rest v e1.
    on_value address_codec 0x81 rest _ c v.others e1 (λ address left w e2.
    on_last key_codec 0x82 left _ c w.others e2 (λ key l e3.
    let whole : content ≡ element 0x80 id ++ (element 0x81 address ++ element 0x82 key) = cc (v.parts, w.parts, l.octets) in
    let grouped : content ≡ element 0x80 id ++ element 0x81 address ++ element 0x82 key = simp append_assoc whole in
    subst (λ (d : EimConfig). (content ≡ element 0x80 d.id ++ element 0x81 d.address ++ element 0x82 d.key) × IsConfig d) (same_Some _ _ e3)
    (grouped, record { id = v.fits; address = w.fits; key = l.fits }))))

config_again : (c : EimConfig) → IsConfig c → config_of (config c) ≡ Some c
unfolding config_of config_content
config_again c h =
    let address = element 0x81 c.address in
    let key = element 0x82 c.key in
    ap config_of (append_assoc (element 0x80 c.id) address key)
    ∙ rw (value_again eim_id_codec 0x80 c.id (address ++ key) (omega arith) (omega (arith, h.id.few)) h.id)
    (rw (value_again address_codec 0x81 c.address key (omega arith) (omega (arith, h.address.few)) h.address)
    (rw (last_again key_codec 0x82 c.key (omega arith) (omega (arith, h.key.few)) h.key) refl))

-- configurations and their octets
pub config_codec : IsCodec config_of config IsConfig
config_codec = record { takes = config_takes; again = config_again }

-- three fields of at most 131 octets each
pub config_few : (c : EimConfig) → IsConfig c → length (config c) ≤ 393
unfolding config_content
config_few c h =
    let id = element 0x80 c.id in
    let address = element 0x81 c.address in
    omega (
      arith,
      length-append (id ++ address) (element 0x82 c.key),
      length-append id address,
      middle 0x80 c.id 128 h.id.few (omega arith),
      middle 0x81 c.address 128 h.address.few (omega arith),
      middle 0x82 c.key 128 h.key.few (omega arith),
    )
