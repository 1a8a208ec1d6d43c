use Rattle.std.proofs.Common.{arith}
use Rattle.sgp_fields.proofs.Clauses.{found_by, only_by, malformed_by}
use Rattle.result_codec.proofs.EimListCodec.{eim_lines_codec}
use Rattle.result_codec.proofs.eim_lines.read_eim_lines.Goals as goal

pub returns-clause-found : goal.returns-clause-found
returns-clause-found c = found_by eim_lines_codec c.args.content.now c.eim_list.result (λ i. omega (arith, c.type_inv.content i)) c.eim_list.ensures

pub returns-clause-only : goal.returns-clause-only
returns-clause-only c = only_by eim_lines_codec c.args.content.now c.eim_list.result c.eim_list.ensures

pub returns-clause-malformed : goal.returns-clause-malformed
returns-clause-malformed c = malformed_by eim_lines_codec c.args.content.now c.eim_list.result c.eim_list.ensures
