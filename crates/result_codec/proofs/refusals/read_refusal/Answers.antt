use Rattle.std.proofs.Common.{arith}
use Rattle.sgp_fields.proofs.Clauses.{found_where, only_where, malformed_where}
use Rattle.result_codec.proofs.RefusalCodec.{refusal_codec}
use Rattle.result_codec.proofs.refusals.read_refusal.Goals as goal

pub returns-clause-found : goal.returns-clause-found
returns-clause-found c = found_where refusal_codec c.args.content.now c.refusal_from.result (λ i. omega (arith, c.type_inv.content i)) c.refusal_from.ensures

pub returns-clause-only : goal.returns-clause-only
returns-clause-only c = only_where refusal_codec c.args.content.now c.refusal_from.result c.refusal_from.ensures

pub returns-clause-malformed : goal.returns-clause-malformed
returns-clause-malformed c = malformed_where refusal_codec c.args.content.now c.refusal_from.result c.refusal_from.ensures
