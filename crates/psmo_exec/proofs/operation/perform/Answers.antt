use Rattle.std.proofs.Common.{◌∙◌, sym}
use Rattle.psmo_exec.proofs.Rows.{enable_row, disable_row, list_row, kept_flag}
use Rattle.psmo_exec.proofs.operation.perform.Goals as goal

pub returns-in-Enable : goal.returns-in-Enable
returns-in-Enable c = λ done e.
    rw c.in-Enable.is (c.enable.ensures.operation ∙ enable_row c.args.former.now done c.args.table.now c.in-Enable.iccid c.in-Enable.rollback)

pub returns-in-Disable : goal.returns-in-Disable
returns-in-Disable c = λ done e.
    rw c.in-Disable.is (c.disable.ensures.operation ∙ disable_row c.args.former.now done c.args.table.now c.in-Disable.iccid)

pub returns-in-Delete : goal.returns-in-Delete
returns-in-Delete c = λ done e.
    rw c.in-Delete.is (c.delete.ensures c.args.former.now done (kept_flag c.args.former.now done c.args.armed c.in-Delete.iccid e ∙ sym c.is_kept-kept.ensures))

pub returns-in_ok-list-in-List : goal.returns-in_ok-list-in-List
returns-in_ok-list-in-List c = λ done e.
    rw c.in-List.is (c.in_ok-list-in-List.ensures.operation ∙ list_row c.args.former.now done c.args.table.now)
