use Rattle.sgp_fields.proofs.Elements.{one_spelling}
use Rattle.es10_codec.proofs.CommandCodec.{command_listed}
use Rattle.es10_codec.proofs.laws.commands_have_one_spelling.Goals as goal

pub returns : goal.returns
returns c = one_spelling command_listed
