use Rattle.std.proofs.Common.{◌∙◌, sym, arith}
use Rattle.std.proofs.lemmas.List.{drop_all}
use Rattle.psmo_exec.proofs.Looking.{begun, step_on, step_off, all_done}
use Rattle.psmo_exec.proofs.executor.run_all.Goals as goal

pub loop-op-init : goal.loop-op-init
loop-op-init c = rw (c.into_row-items.ensures, c.in_ok-with_room.ensures.items) (begun c.args.former.now c.args.table.now c.args.ops.now c.requires)

pub loop-op-preserved : goal.loop-op-preserved
loop-op-preserved c =
    rw (c.in_ok-keep.ensures, c.armed_after-armed.ensures, c.is_there-there.ensures)
    (step_on c.args.former.now c.args.table.now c.args.ops.now c.loop-op.op-index c.loop-op.table c.loop-op.items c.loop-op.armed c.op-item.result c.perform.new.table c.in_ok-item.item
    (omega arith) c.op-item.is c.in_ok-item.ensures (sym c.is_done-done.ensures.done ∙ c.if-not-done.false) c.loop-op.invariant)

pub returns-then-not-done : goal.returns-then-not-done
returns-then-not-done c =
    rw (c.in_ok-keep.ensures, c.armed_after-armed.ensures, c.is_there-there.ensures)
    (step_off c.args.former.now c.args.table.now c.args.ops.now c.loop-op.op-index c.loop-op.table c.loop-op.items c.loop-op.armed c.op-item.result c.perform.new.table c.in_ok-item.item
    (omega arith) c.op-item.is c.in_ok-item.ensures (sym c.is_done-done.ensures.done ∙ c.if-not-done.true) c.loop-op.invariant)

pub returns : goal.returns
returns c = all_done c.args.former.now c.args.table.now c.args.ops.now _ c.loop-op.table c.loop-op.items c.loop-op.armed (drop_all c.loop-op.op-index c.args.ops.now (omega arith)) c.loop-op.invariant
