use Rattle.std.proofs.Common.{◌≡◌, map, take}
use Rattle.small_card.specs.EimOperations.{line_of}
use Rattle.eim_table.proofs.entries.lines_of.Given as goal

abbrev pub invariant-loop-entry : goal.invariant-loop-entry
invariant-loop-entry l = l.out ≡ map line_of (take l.entry-index l.entries)
