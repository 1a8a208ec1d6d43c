use Rattle.std.proofs.Common.{arith}
use Rattle.sgp_fields.proofs.Clauses.{found_by, only_by, malformed_by}
use Rattle.result_codec.proofs.ResultCodec.{content_codec}
use Rattle.result_codec.proofs.results.read_result_content.Goals as goal

pub returns-clause-found : goal.returns-clause-found
returns-clause-found c = found_by content_codec c.args.content.now c.result_from.result (λ i. omega (arith, c.type_inv.content i)) c.result_from.ensures

pub returns-clause-only : goal.returns-clause-only
returns-clause-only c = only_by content_codec c.args.content.now c.result_from.result c.result_from.ensures

pub returns-clause-malformed : goal.returns-clause-malformed
returns-clause-malformed c = malformed_by content_codec c.args.content.now c.result_from.result c.result_from.ensures
