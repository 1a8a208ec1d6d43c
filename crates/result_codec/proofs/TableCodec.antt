-- A table of profiles that is read was spelled so, and one that is spelled is read again.
use Rattle.std.proofs.Common.{◌≡◌, ℕ, ◌≤◌, Bool, true, false, List, ◌++◌, length, Some, refl, sym, ap, subst, ◌∙◌, arith, append_assoc, length-append}
use Rattle.std.specs.List.{flat_map}
use Rattle.sgp_der.specs.Element.{element}
use Rattle.sgp_der.proofs.Fields.{on_some, guard_some}
use Rattle.sgp_values.specs.Iccids.{IsIccid}
use Rattle.sgp_values.specs.Ranges.{IsNickname}
use Rattle.sgp_fields.specs.Values.{flag_content}
use Rattle.sgp_fields.specs.Fields.{octets}
use Rattle.sgp_fields.specs.Lists.{list_at}
use Rattle.sgp_fields.proofs.Codecs.{IsCodec, IsListed, IsValue, IsLast}
use Rattle.sgp_fields.proofs.Elements.{record_listed}
use Rattle.sgp_fields.proofs.Steps.{on_value, on_last, value_again, last_again, only_if_again}
use Rattle.sgp_fields.proofs.ValueCodecs.{iccid_codec, nickname_codec, flag_codec, flag_few, IsAny}
use Rattle.sgp_fields.proofs.ListCodec.{list_codec}
use Rattle.sgp_fields.proofs.Sizes.{short, code_few, flat_few}
use Rattle.small_card.specs.Pairs.{each_pair, are_profiles_apart}
use Rattle.small_card.specs.Ranges.{IsProfile, IsTable}
use Rattle.small_card.specs.declared.types.Profile.{Profile}
use Rattle.small_card.proofs.PairTests.{profile_pairs, pairs_take, pairs_again}
use Rattle.std.proofs.lemmas.Option.{same_Some}
use Rattle.iot_bytes.proofs.Framing.{IsBytes}
use Rattle.result_codec.specs.Spelling.{profile_content, profile, profiles}
use Rattle.result_codec.specs.Reading.{profile_fields, profile_of, profiles_at}

profile_made : (content rest others : List ℕ) (iccid : List ℕ) (enabled : Bool) (nickname : List ℕ) (p : Profile)
    → IsValue octets IsIccid 0x80 content iccid rest → IsValue flag_content IsAny 0x81 rest enabled others → IsLast octets IsNickname 0x82 others nickname
    → record { iccid = iccid; enabled = enabled; nickname = nickname } ≡ p → (content ≡ profile_content p) × IsProfile p
unfolding profile_content
profile_made content rest others iccid enabled nickname p a b c is =
    let whole : content ≡ element 0x80 iccid ++ (element 0x81 (flag_content enabled) ++ element 0x82 nickname) = cc (a.parts, b.parts, c.octets) in
    let grouped = whole ∙ sym (append_assoc (element 0x80 iccid) (element 0x81 (flag_content enabled)) (element 0x82 nickname)) in
    subst (λ (x : Profile). (content ≡ element 0x80 x.iccid ++ element 0x81 (flag_content x.enabled) ++ element 0x82 x.nickname) × IsProfile x) is (grouped, record { iccid = a.fits; nickname = c.fits })

profile_takes : (content : List ℕ) (p : Profile) → IsBytes content → profile_fields content ≡ Some p → (content ≡ profile_content p) × IsProfile p
unfolding profile_fields
profile_takes content p fits e =
    on_value iccid_codec 0x80 content _ p fits e (λ iccid rest a e1.
    on_value flag_codec 0x81 rest _ p a.others e1 (λ enabled others b e2.
    on_last nickname_codec 0x82 others _ p b.others e2 (λ nickname c e3.
    profile_made content rest others iccid enabled nickname p a b c (same_Some _ _ e3))))

profile_again : (p : Profile) → IsProfile p → profile_fields (profile_content p) ≡ Some p
unfolding profile_fields profile_content
profile_again p h =
    ap profile_fields (append_assoc (element 0x80 p.iccid) (element 0x81 (flag_content p.enabled)) (element 0x82 p.nickname))
    ∙ rw (value_again iccid_codec 0x80 p.iccid (element 0x81 (flag_content p.enabled) ++ element 0x82 p.nickname) (omega arith) (omega (arith, h.iccid.len)) h.iccid)
    (rw (value_again flag_codec 0x81 p.enabled (element 0x82 p.nickname) (omega arith) (omega (arith, flag_few p.enabled)) tt)
    (rw (last_again nickname_codec 0x82 p.nickname (omega arith) (omega (arith, h.nickname.few)) h.nickname) refl))

flag_one : (b : Bool) → length (flag_content b) ≤ 1
unfolding flag_content
flag_one true = code_few 1 (omega arith)
flag_one false = code_few 0 (omega arith)

content_few : (p : Profile) → IsProfile p → length (profile_content p) ≤ 81
unfolding profile_content
content_few p h =
    let iccid = element 0x80 p.iccid in
    let enabled = element 0x81 (flag_content p.enabled) in
    omega (
      arith,
      length-append (iccid ++ enabled) (element 0x82 p.nickname),
      length-append iccid enabled,
      short 0x80 p.iccid 10 (omega (arith, h.iccid.len)) (omega arith),
      short 0x81 (flag_content p.enabled) 1 (flag_one p.enabled) (omega arith),
      short 0x82 p.nickname 64 h.nickname.few (omega arith),
    )

-- a profile has at most 83 octets
pub profile_few : (p : Profile) → IsProfile p → length (profile p) ≤ 83
unfolding profile
profile_few p h = short 0x30 (profile_content p) 81 (content_few p h) (omega arith)

-- a table has at most 1,328 octets
pub profiles_few : (ps : List Profile) → IsTable ps → length (profiles ps) ≤ 1328
profiles_few ps h = omega (arith, flat_few profile IsProfile 83 profile_few ps h.each, h.few)

-- profiles and their fields
fields_codec : IsCodec profile_fields profile_content IsProfile
fields_codec = record { takes = profile_takes; again = profile_again }

-- profiles and their elements
pub profile_listed : IsListed profile_of profile IsProfile
unfolding profile
profile_listed = record_listed fields_codec 0x30 (omega arith) (λ p h. omega (arith, content_few p h))

table_takes : (content : List ℕ) (ps : List Profile) → IsBytes content → profiles_at content ≡ Some ps → (content ≡ profiles ps) × IsTable ps
unfolding profiles_at
table_takes content ps fits e =
    on_some (list_at profile_of 16 content) _ ps e (λ rows a e1.
    let t = (list_codec profile_listed 16).takes content rows fits a in
    let g = guard_some (each_pair are_profiles_apart rows) rows ps e1 in
    subst (λ (x : List Profile). (content ≡ flat_map profile x) × IsTable x) g.1 (t.0, record { few = t.1.few; each = t.1.each; apart = pairs_take profile_pairs rows g.0 }))

table_again : (ps : List Profile) → IsTable ps → profiles_at (profiles ps) ≡ Some ps
unfolding profiles_at
table_again ps h =
    rw ((list_codec profile_listed 16).again ps (record { few = h.few; each = h.each }))
    (only_if_again (each_pair are_profiles_apart ps) ps (pairs_again profile_pairs ps h.apart))

-- tables and their contents
pub profiles_codec : IsCodec profiles_at profiles IsTable
profiles_codec = record { takes = table_takes; again = table_again }
