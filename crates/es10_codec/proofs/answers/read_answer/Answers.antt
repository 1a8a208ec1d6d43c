use Rattle.std.proofs.Common.{arith}
use Rattle.sgp_fields.proofs.Clauses.{found_by, only_by, malformed_by}
use Rattle.es10_codec.proofs.AnswerCodec.{answer_codec}
use Rattle.es10_codec.proofs.answers.read_answer.Goals as goal

pub returns-clause-found : goal.returns-clause-found
returns-clause-found c = found_by answer_codec c.args.bytes.now c.answer_from.result (λ i. omega (arith, c.type_inv.bytes i)) c.answer_from.ensures

pub returns-clause-only : goal.returns-clause-only
returns-clause-only c = only_by answer_codec c.args.bytes.now c.answer_from.result c.answer_from.ensures

pub returns-clause-malformed : goal.returns-clause-malformed
returns-clause-malformed c = malformed_by answer_codec c.args.bytes.now c.answer_from.result c.answer_from.ensures
