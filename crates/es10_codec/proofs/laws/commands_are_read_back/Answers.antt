use Rattle.sgp_fields.proofs.Clauses.{reads_spelled}
use Rattle.es10_codec.proofs.CommandCodec.{command_codec}
use Rattle.es10_codec.proofs.laws.commands_are_read_back.Goals as goal

pub returns : goal.returns
returns c = record { taken = reads_spelled command_codec; again = command_codec.again }
