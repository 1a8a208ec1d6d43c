use Rattle.sgp_fields.proofs.Elements.{one_spelling}
use Rattle.es10_codec.proofs.AnswerCodec.{answer_listed}
use Rattle.es10_codec.proofs.laws.answers_have_one_spelling.Goals as goal

pub returns : goal.returns
returns c = one_spelling answer_listed
