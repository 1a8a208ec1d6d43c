use Rattle.sgp_fields.proofs.Clauses.{reads_spelled}
use Rattle.es10_codec.proofs.AnswerCodec.{answer_codec}
use Rattle.es10_codec.proofs.laws.answers_are_read_back.Goals as goal

pub returns : goal.returns
returns c = record { taken = reads_spelled answer_codec; again = answer_codec.again }
