use Rattle.std.proofs.Common.{arith}
use Rattle.sgp_fields.proofs.Clauses.{found_by, only_by, malformed_by}
use Rattle.part_records.proofs.EimInputs.{eim_codec}
use Rattle.part_records.proofs.eim_inputs.read_eim_input.Goals as goal

pub returns-clause-found : goal.returns-clause-found
returns-clause-found c = found_by eim_codec c.args.bytes.now c.input_from.result (λ i. omega (arith, c.type_inv.bytes i)) c.input_from.ensures

pub returns-clause-only : goal.returns-clause-only
returns-clause-only c = λ x fits is. only_by eim_codec c.args.bytes.now c.input_from.result c.input_from.ensures x fits is

pub returns-clause-malformed : goal.returns-clause-malformed
returns-clause-malformed c = λ wrong x fits is. malformed_by eim_codec c.args.bytes.now c.input_from.result c.input_from.ensures wrong x fits is
