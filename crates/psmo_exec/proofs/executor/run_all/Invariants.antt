use Rattle.std.proofs.Common.{drop}
use Rattle.psmo_exec.proofs.Looking.{Ran}
use Rattle.psmo_exec.proofs.executor.run_all.Given as goal

abbrev pub invariant-loop-op : goal.invariant-loop-op
invariant-loop-op l = Ran l.former l.fn.table l.ops (drop l.op-index l.ops) l.table l.items l.armed
