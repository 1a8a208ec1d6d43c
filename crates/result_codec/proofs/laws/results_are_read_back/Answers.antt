use Rattle.sgp_fields.proofs.Clauses.{reads_spelled}
use Rattle.result_codec.proofs.ResultCodec.{result_codec}
use Rattle.result_codec.proofs.laws.results_are_read_back.Goals as goal

pub returns : goal.returns
returns c = record { taken = reads_spelled result_codec; again = result_codec.again }
