use Rattle.std.proofs.Common.{◌≡◌, ◌++◌, take}
use Rattle.std.specs.List.{flat_map}
use Rattle.trace_text.specs.Texts.{pending_entry}
use Rattle.trace_text.proofs.card.put_all_pending.Given as goal

abbrev pub invariant-loop-one : goal.invariant-loop-one
invariant-loop-one l = l.out ≡ l.fn.out ++ flat_map pending_entry (take l.one-index l.pending)
