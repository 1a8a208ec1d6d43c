-- What managers and assistants give is short.
use Rattle.std.proofs.Common.{◌≤◌, [], length, arith, length-append}
use Rattle.sgp_der.specs.Element.{element}
use Rattle.sgp_der.specs.Number.{uint}
use Rattle.sgp_der.proofs.Elements.{element_few}
use Rattle.sgp_der.proofs.Values.{uint_few}
use Rattle.sgp_fields.specs.Alone.{number_alone}
use Rattle.sgp_fields.proofs.Sizes.{flat_few}
use Rattle.es10_codec.specs.Spelling.{command}
use Rattle.esipa_codec.specs.Spelling.{to_eim, to_ipa}
use Rattle.esipa_codec.specs.declared.messages.Post.{Post}
use Rattle.esipa_codec.proofs.ToEimCodec.{to_eim_few}
use Rattle.part_records.specs.Ranges.{IsEimOutput, IsPost, AreDeeds}
use Rattle.part_records.specs.Spelling.{eim_output, refusal_code, post_content, post, deeds_content, deeds}
use Rattle.part_records.specs.declared.records.EimOutput.{EimOutput}
use Rattle.part_records.specs.declared.records.EimOutput.TheVariants as eim_out
use Rattle.part_records.specs.declared.records.EimRefusal.{EimRefusal}
use Rattle.part_records.specs.declared.records.EimRefusal.TheVariants as refusal
use Rattle.part_records.specs.declared.records.Deeds.{Deeds}
use Rattle.part_records.specs.declared.records.Deeds.TheVariants as deed

pub code_few : (why : EimRefusal) → refusal_code why ≤ 4
code_few refusal.Unbound = omega arith
code_few refusal.CounterSpent = omega arith
code_few refusal.BindLow = omega arith
code_few refusal.NoneWaiting = omega arith

pub eim_output_few : (x : EimOutput) → IsEimOutput x → length (eim_output x) ≤ 16777220
unfolding eim_output IsEimOutput
eim_output_few (eim_out.Ordered counter) h = omega (arith, element_few 0x80 (uint counter), uint_few counter h)
eim_output_few (eim_out.Refused why) h = omega (arith, element_few 0xa1 (number_alone (refusal_code why)), element_few 0x80 (uint (refusal_code why)), uint_few (refusal_code why) (omega (arith, code_few why)))
eim_output_few eim_out.Bound h = omega (arith, element_few 0x82 [])
eim_output_few (eim_out.Skipped counter) h = omega (arith, element_few 0x83 (uint counter), uint_few counter h)
eim_output_few (eim_out.Reply m) h = omega (arith, element_few 0xa4 (to_ipa m), h.short)
eim_output_few eim_out.Silent h = omega (arith, element_few 0x85 [])

post_few : (p : Post) → IsPost p → length (post p) ≤ 18461
unfolding post post_content
post_few p h =
    omega (
      arith,
      element_few 0xa1 (post_content p),
      length-append (element 0x80 p.to) (element 0xa2 (to_eim p.message)),
      element_few 0x80 p.to,
      h.to.few,
      element_few 0xa2 (to_eim p.message),
      to_eim_few p.message h.message,
    )

pub content_few : (d : Deeds) → AreDeeds d → length (deeds_content d) ≤ 16777215
unfolding deeds_content AreDeeds
content_few (deed.ToCard c) h = omega (arith, element_few 0xa0 (command c), h.short)
content_few (deed.ToEims posts) h = omega (arith, flat_few post IsPost 18461 post_few posts h.each, h.few)
content_few deed.Nothing h = omega arith

pub deeds_few : (d : Deeds) → AreDeeds d → length (deeds d) ≤ 16777220
unfolding deeds
deeds_few d h = omega (arith, element_few 0x30 (deeds_content d), content_few d h)
