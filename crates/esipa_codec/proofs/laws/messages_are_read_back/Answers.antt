use Rattle.sgp_fields.proofs.Clauses.{reads_spelled, reads_again}
use Rattle.esipa_codec.proofs.ToEimCodec.{to_eim_codec}
use Rattle.esipa_codec.proofs.ToIpaCodec.{to_ipa_codec}
use Rattle.esipa_codec.proofs.laws.messages_are_read_back.Goals as goal

pub returns-clause-up_taken : goal.returns-clause-up_taken
returns-clause-up_taken c = reads_spelled to_eim_codec

pub returns-clause-up_again : goal.returns-clause-up_again
returns-clause-up_again c = reads_again to_eim_codec

pub returns-clause-down_taken : goal.returns-clause-down_taken
returns-clause-down_taken c = reads_spelled to_ipa_codec

pub returns-clause-down_again : goal.returns-clause-down_again
returns-clause-down_again c = reads_again to_ipa_codec
