use Rattle.std.proofs.Common.{arith}
use Rattle.sgp_fields.proofs.Clauses.{found_by, only_by, malformed_by}
use Rattle.result_codec.proofs.ResultCodec.{result_codec}
use Rattle.result_codec.proofs.results.read_result.Goals as goal

pub returns-clause-found : goal.returns-clause-found
returns-clause-found c = found_by result_codec c.args.bytes.now c.whole.result (λ i. omega (arith, c.type_inv.bytes i)) c.whole.ensures

pub returns-clause-only : goal.returns-clause-only
returns-clause-only c = only_by result_codec c.args.bytes.now c.whole.result c.whole.ensures

pub returns-clause-malformed : goal.returns-clause-malformed
returns-clause-malformed c = malformed_by result_codec c.args.bytes.now c.whole.result c.whole.ensures
