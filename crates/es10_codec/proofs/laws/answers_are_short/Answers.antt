use Rattle.es10_codec.proofs.AnswerCodec.{answer_few}
use Rattle.es10_codec.proofs.laws.answers_are_short.Goals as goal

pub returns : goal.returns
returns c = answer_few
