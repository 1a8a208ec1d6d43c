-- Reading what comes to managers and assistants from left to right.
use Rattle.std.specs.Prelude.{ℕ, ◌==◌, nat_le, List, length, Option, Some, None, if◌then◌else◌}
use Rattle.iot_bytes.specs.declared.frame.TheConstants.{FRAME_LIMIT}
use Rattle.sgp_der.specs.Fields.{◌>>=◌}
use Rattle.sgp_values.specs.Reading.{eim_id_of}
use Rattle.sgp_fields.specs.Alone.{made_of, empty_of}
use Rattle.sgp_fields.specs.Elements.{whole_at}
use Rattle.sgp_fields.specs.Fields.{value_at, last_at}
use Rattle.sgp_fields.specs.Values.{flag_of, number_of}
use Rattle.small_card.specs.Ranges.{greatest_counter}
use Rattle.package_codec.specs.Reading.{body_of}
use Rattle.es10_codec.specs.Reading.{answer_at}
use Rattle.esipa_codec.specs.Reading.{to_eim_at, to_ipa_at}
use Rattle.part_records.specs.declared.records.EimInput.{EimInput}
use Rattle.part_records.specs.declared.records.EimInput.TheVariants as eim_in
use Rattle.part_records.specs.declared.records.IpaInput.{IpaInput}
use Rattle.part_records.specs.declared.records.IpaInput.TheVariants as ipa_in

-- the Bind whose fields the content is
unfoldable pub bind_of : List ℕ → Option EimInput
bind_of content = do
  association ← value_at (number_of 1 4294967295) 0x80 content
  last ← last_at (number_of 0 greatest_counter) 0x81 association.1
  Some (eim_in.Bind association.0 last)

-- what a tag and a content are that come to a manager
unfoldable pub eim_input_of : ℕ → List ℕ → Option EimInput
eim_input_of tag content =
    if tag == 0xa0 then bind_of content
    else if tag == 0x86 then empty_of eim_in.Skip content
    else if tag == 0xa7 then made_of to_eim_at eim_in.Message content
    else made_of (body_of tag) eim_in.Order content

-- what the bytes are that come to a manager
unfoldable pub eim_input_at : List ℕ → Option EimInput
eim_input_at bytes = whole_at eim_input_of bytes

-- the message to an assistant whose fields the content is
unfoldable pub message_of : List ℕ → Option IpaInput
message_of content = do
  from ← value_at eim_id_of 0x80 content
  good ← value_at flag_of 0x81 from.1
  message ← last_at to_ipa_at 0xa2 good.1
  Some (ipa_in.Message from.0 good.0 message)

-- what a tag and a content are that come to an assistant
unfoldable pub ipa_input_of : ℕ → List ℕ → Option IpaInput
ipa_input_of tag content =
    if tag == 0xa0 then message_of content
    else if tag == 0x81 then made_of flag_of ipa_in.Probe content
    else if tag == 0x82 then empty_of ipa_in.Restart content
    else if tag == 0x83 then empty_of ipa_in.Push content
    else if tag == 0xa4 then made_of answer_at ipa_in.Answered content
    else if tag == 0x85 then made_of eim_id_of ipa_in.Poll content
    else None

-- what the bytes are that come to an assistant, which are no more than a frame has
unfoldable pub ipa_input_at : List ℕ → Option IpaInput
ipa_input_at bytes = if nat_le (length bytes) FRAME_LIMIT then whole_at ipa_input_of bytes else None
