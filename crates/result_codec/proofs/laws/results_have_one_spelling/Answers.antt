use Rattle.result_codec.proofs.ResultCodec.{result_split}
use Rattle.result_codec.proofs.laws.results_have_one_spelling.Goals as goal

pub returns : goal.returns
returns c = result_split
