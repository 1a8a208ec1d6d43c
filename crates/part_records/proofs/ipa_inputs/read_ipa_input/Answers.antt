use Rattle.std.proofs.Common.{◌≡◌, ◌≤◌, length, arith}
use Rattle.std.proofs.lemmas.Result.{IfOk-weaker}
use Rattle.iot_bytes.specs.declared.frame.TheConstants.{FRAME_LIMIT}
use Rattle.sgp_fields.proofs.Clauses.{found_by, only_by, malformed_by}
use Rattle.part_records.specs.Ranges.{IsIpaInput}
use Rattle.part_records.specs.Spelling.{ipa_input, IsFramable}
use Rattle.part_records.proofs.IpaInputs.{ipa_codec}
use Rattle.part_records.proofs.ipa_inputs.read_ipa_input.Goals as goal

pub returns-clause-found : goal.returns-clause-found
returns-clause-found c =
    IfOk-weaker c.input_from.result (λ x. IsFramable x × (c.args.bytes.now ≡ ipa_input x)) (λ x. IsIpaInput x × (c.args.bytes.now ≡ ipa_input x)) (λ x h. (h.0.range, h.1))
    (found_by ipa_codec c.args.bytes.now c.input_from.result (λ i. omega (arith, c.type_inv.bytes i)) c.input_from.ensures)

pub returns-clause-short : goal.returns-clause-short
returns-clause-short c =
    IfOk-weaker c.input_from.result (λ x. IsFramable x × (c.args.bytes.now ≡ ipa_input x)) (λ x. length (ipa_input x) ≤ FRAME_LIMIT) (λ x h. h.0.short)
    (found_by ipa_codec c.args.bytes.now c.input_from.result (λ i. omega (arith, c.type_inv.bytes i)) c.input_from.ensures)

pub returns-clause-only : goal.returns-clause-only
returns-clause-only c = λ x fits is. only_by ipa_codec c.args.bytes.now c.input_from.result c.input_from.ensures x fits is

pub returns-clause-malformed : goal.returns-clause-malformed
returns-clause-malformed c = λ wrong x fits is. malformed_by ipa_codec c.args.bytes.now c.input_from.result c.input_from.ensures wrong x fits is
