use Rattle.result_codec.proofs.ResultCodec.{result_few}
use Rattle.result_codec.proofs.laws.results_are_short.Goals as goal

pub returns : goal.returns
returns c = result_few
