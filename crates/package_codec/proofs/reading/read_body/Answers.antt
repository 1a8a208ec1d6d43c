use Rattle.std.proofs.Common.{arith}
use Rattle.sgp_fields.proofs.Clauses.{found_by, only_by, malformed_by}
use Rattle.package_codec.proofs.Bodies.{body_codec}
use Rattle.package_codec.proofs.reading.read_body.Goals as goal

pub returns-clause-found : goal.returns-clause-found
returns-clause-found c = found_by body_codec c.args.bytes.now c.body.result (λ i. omega (arith, c.type_inv.bytes i)) c.body.ensures

pub returns-clause-only : goal.returns-clause-only
returns-clause-only c = λ b fits e. only_by body_codec c.args.bytes.now c.body.result c.body.ensures b fits e

pub returns-clause-malformed : goal.returns-clause-malformed
returns-clause-malformed c = λ h b fits e. malformed_by body_codec c.args.bytes.now c.body.result c.body.ensures h b fits e
