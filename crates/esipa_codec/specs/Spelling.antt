-- The one spelling of each message.
use Rattle.std.specs.Prelude.{ℕ, List, []}
use Rattle.sgp_der.specs.Element.{element}
use Rattle.sgp_fields.specs.Alone.{number_alone}
use Rattle.result_codec.specs.Spelling.{result, refusal}
use Rattle.esipa_codec.specs.declared.messages.ToEim.{ToEim}
use Rattle.esipa_codec.specs.declared.messages.ToEim.TheVariants as up
use Rattle.esipa_codec.specs.declared.messages.ToIpa.{ToIpa}
use Rattle.esipa_codec.specs.declared.messages.ToIpa.TheVariants as down

-- what stands in a Poll: the card for which the assistant asks
unfoldable pub poll_content : List ℕ → List ℕ
poll_content eid = element 0x80 eid

-- a message to an eIM
unfoldable pub to_eim : ToEim → List ℕ
to_eim (up.Poll eid) = element 0xa0 (poll_content eid)
to_eim (up.Result r) = element 0xa1 (result r)
to_eim (up.Refused f) = element 0xa2 (refusal f)

-- a message to the assistant; the octets of a package stand as they are
unfoldable pub to_ipa : ToIpa → List ℕ
to_ipa (down.Package bytes) = element 0x80 bytes
to_ipa down.Nothing = element 0x81 []
to_ipa (down.Ack seq) = element 0xa2 (number_alone seq)
