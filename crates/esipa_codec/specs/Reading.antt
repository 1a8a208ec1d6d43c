-- Reading messages from left to right.
use Rattle.std.specs.Prelude.{ℕ, ◌==◌, List, Option, Some, None, if◌then◌else◌}
use Rattle.sgp_values.specs.Reading.{eid_of}
use Rattle.sgp_fields.specs.Alone.{made_of, number_alone_of, empty_of}
use Rattle.sgp_fields.specs.Elements.{whole_at}
use Rattle.sgp_fields.specs.Fields.{last_at}
use Rattle.result_codec.specs.Reading.{result_at, refusal_of}
use Rattle.esipa_codec.specs.declared.messages.ToEim.{ToEim}
use Rattle.esipa_codec.specs.declared.messages.ToEim.TheVariants as up
use Rattle.esipa_codec.specs.declared.messages.ToIpa.{ToIpa}
use Rattle.esipa_codec.specs.declared.messages.ToIpa.TheVariants as down

-- the message to an eIM that a tag and a content are
unfoldable pub to_eim_of : ℕ → List ℕ → Option ToEim
to_eim_of tag content =
    if tag == 0xa0 then made_of (λ c. last_at eid_of 0x80 c) up.Poll content
    else if tag == 0xa1 then made_of result_at up.Result content
    else if tag == 0xa2 then made_of refusal_of up.Refused content
    else None

-- the message to an eIM that the bytes spell
unfoldable pub to_eim_at : List ℕ → Option ToEim
to_eim_at bytes = whole_at to_eim_of bytes

-- the message to the assistant that a tag and a content are
unfoldable pub to_ipa_of : ℕ → List ℕ → Option ToIpa
to_ipa_of tag content =
    if tag == 0x80 then Some (down.Package content)
    else if tag == 0x81 then empty_of down.Nothing content
    else if tag == 0xa2 then made_of (number_alone_of 1 4294967295) down.Ack content
    else None

-- the message to the assistant that the bytes spell
unfoldable pub to_ipa_at : List ℕ → Option ToIpa
to_ipa_at bytes = whole_at to_ipa_of bytes
