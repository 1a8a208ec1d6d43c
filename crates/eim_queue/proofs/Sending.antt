-- What an eIM sends is in range.
use Rattle.std.proofs.Common.{ℕ, ◌≤◌, List, [], length, arith}
use Rattle.std.specs.List.{AllPass}
use Rattle.sgp_der.specs.Number.{uint}
use Rattle.sgp_der.proofs.Elements.{element_few}
use Rattle.sgp_der.proofs.Values.{uint_few}
use Rattle.sgp_fields.specs.Alone.{number_alone}
use Rattle.sgp_values.specs.Ranges.{is_octet}
use Rattle.small_card.specs.Ranges.{IsNumber}
use Rattle.esipa_codec.specs.Ranges.{IsToIpa}
use Rattle.esipa_codec.specs.Spelling.{to_ipa}
use Rattle.esipa_codec.specs.declared.ends.MessageEnd.TheVariants.{Reply}
use Rattle.esipa_codec.specs.declared.messages.ToIpa.TheVariants as to_ipa_is
use Rattle.esipa_codec.proofs.ToIpaCodec.{package_few}
use Rattle.eim_queue.specs.Queues.{IsSendable}

pub nothing_sendable : IsSendable (Reply to_ipa_is.Nothing)
unfolding IsToIpa to_ipa
nothing_sendable = (tt, omega (arith, element_few 0x81 []))

pub ack_sendable : (seq : ℕ) → IsNumber seq → IsSendable (Reply (to_ipa_is.Ack seq))
unfolding IsToIpa to_ipa
ack_sendable seq fits = (fits, omega (arith, element_few 0xa2 (number_alone seq), element_few 0x80 (uint seq), uint_few seq (omega (arith, fits.fits))))

pub package_sendable : (bytes : List ℕ) → length bytes ≤ 3485 → AllPass is_octet bytes → IsSendable (Reply (to_ipa_is.Package bytes))
unfolding IsToIpa
package_sendable bytes few octets = (record { few = omega (arith, few); each = octets }, package_few bytes few)
