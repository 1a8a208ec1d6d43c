use Rattle.std.proofs.Common.{◌≡◌, ◌++◌, take}
use Rattle.std.specs.List.{flat_map}
use Rattle.trace_text.specs.Texts.{eim_entry}
use Rattle.trace_text.proofs.card.put_eims.Given as goal

abbrev pub invariant-loop-eim : goal.invariant-loop-eim
invariant-loop-eim l = l.out ≡ l.fn.out ++ flat_map eim_entry (take l.eim-index l.eims)
