use Rattle.std.proofs.Common.{◌≡◌, ℕ, List, subst, arith}
use Rattle.std.proofs.lemmas.Result.{IfOk-weaker}
use Rattle.small_card.specs.Ranges.{IsCommand}
use Rattle.small_card.specs.declared.types.Command.{Command}
use Rattle.sgp_fields.proofs.Clauses.{found_by, only_by, malformed_by}
use Rattle.iot_bytes.proofs.Framing.{IsBytes}
use Rattle.es10_codec.specs.Spelling.{command, IsShort, IsSpellable}
use Rattle.es10_codec.proofs.CommandCodec.{command_codec, short_command}
use Rattle.es10_codec.proofs.commands.read_command.Goals as goal

spellable : (bytes : List ℕ) (value : Command) → IsBytes bytes → IsCommand value → bytes ≡ command value → IsSpellable value
spellable bytes value fits range is = record { range = range; short = short_command value (subst IsBytes is fits) }

pub returns-clause-found : goal.returns-clause-found
returns-clause-found c =
    IfOk-weaker c.command_from.result (λ value. IsSpellable value × (c.args.bytes.now ≡ command value)) (λ value. IsCommand value × (c.args.bytes.now ≡ command value)) (λ value h. (h.0.range, h.1))
    (found_by command_codec c.args.bytes.now c.command_from.result (λ i. omega (arith, c.type_inv.bytes i)) c.command_from.ensures)

pub returns-clause-short : goal.returns-clause-short
returns-clause-short c =
    IfOk-weaker c.command_from.result (λ value. IsSpellable value × (c.args.bytes.now ≡ command value)) IsShort (λ value h. h.0.short)
    (found_by command_codec c.args.bytes.now c.command_from.result (λ i. omega (arith, c.type_inv.bytes i)) c.command_from.ensures)

pub returns-clause-only : goal.returns-clause-only
returns-clause-only c = λ value range is. only_by command_codec c.args.bytes.now c.command_from.result c.command_from.ensures value (spellable c.args.bytes.now value (λ i. omega (arith, c.type_inv.bytes i)) range is) is

pub returns-clause-malformed : goal.returns-clause-malformed
returns-clause-malformed c = λ wrong value range is. malformed_by command_codec c.args.bytes.now c.command_from.result c.command_from.ensures wrong value (spellable c.args.bytes.now value (λ i. omega (arith, c.type_inv.bytes i)) range is) is
