use Rattle.std.proofs.Common.{arith}
use Rattle.sgp_fields.proofs.Clauses.{found_by, only_by, malformed_by}
use Rattle.result_codec.proofs.TableCodec.{profiles_codec}
use Rattle.result_codec.proofs.profiles.read_profiles.Goals as goal

pub returns-clause-found : goal.returns-clause-found
returns-clause-found c = found_by profiles_codec c.args.content.now c.table.result (λ i. omega (arith, c.type_inv.content i)) c.table.ensures

pub returns-clause-only : goal.returns-clause-only
returns-clause-only c = only_by profiles_codec c.args.content.now c.table.result c.table.ensures

pub returns-clause-malformed : goal.returns-clause-malformed
returns-clause-malformed c = malformed_by profiles_codec c.args.content.now c.table.result c.table.ensures
