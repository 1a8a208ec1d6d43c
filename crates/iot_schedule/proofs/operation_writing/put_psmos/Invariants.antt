use Rattle.std.proofs.Common.{◌≡◌, ◌++◌, take}
use Rattle.std.specs.List.{flat_map}
use Rattle.iot_schedule.specs.Spelling.{psmo_entry}
use Rattle.iot_schedule.proofs.operation_writing.put_psmos.Given as goal

abbrev pub invariant-loop-op : goal.invariant-loop-op
invariant-loop-op l = l.out ≡ l.fn.out ++ flat_map psmo_entry (take l.op-index l.ops)
