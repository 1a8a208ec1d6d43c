use Rattle.std.proofs.Common.{◌≡◌, ◌++◌, take}
use Rattle.std.specs.List.{flat_map}
use Rattle.iot_schedule.specs.Spelling.{eco_entry}
use Rattle.iot_schedule.proofs.operation_writing.put_ecos.Given as goal

abbrev pub invariant-loop-op : goal.invariant-loop-op
invariant-loop-op l = l.out ≡ l.fn.out ++ flat_map eco_entry (take l.op-index l.ops)
