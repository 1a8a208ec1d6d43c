use Rattle.std.proofs.Common.{◌∙◌, sym}
use Rattle.psmo_exec.proofs.Rows.{kept_row, unarmed_row, absent_row, enabled_row}
use Rattle.psmo_exec.proofs.operation.delete.Goals.{else-kept-via-then-kept+then-has+else-not-is_enabled, else-kept-via-then-kept+else-has, else-kept-via-else-kept}
use Rattle.psmo_exec.proofs.operation.delete.Goals as goal

pub returns-then-not-is_enabled : goal.returns-then-not-is_enabled
returns-then-not-is_enabled c = λ former done e.
    kept_row former done c.args.table.now c.args.iccid.now (sym c.has.ensures ∙ c.if-has.true) (sym c.is_enabled.ensures ∙ c.if-not-is_enabled.true) (e ∙ c.if-kept.true)

pub returns : goal.returns
returns c = λ former done e. c.delete.ensures.operation ∙ elim c.else-kept.branch [
  | else-kept-via-then-kept+then-has+else-not-is_enabled w ↦ enabled_row former done c.args.table.now c.args.iccid.now (sym w.is_enabled.ensures ∙ w.if-not-is_enabled.false)
  | else-kept-via-then-kept+else-has w ↦ absent_row former done c.args.table.now c.args.iccid.now (sym w.has.ensures ∙ w.if-has.false)
  | else-kept-via-else-kept w ↦ unarmed_row former done c.args.table.now c.args.iccid.now (e ∙ w.if-kept.false)
]
