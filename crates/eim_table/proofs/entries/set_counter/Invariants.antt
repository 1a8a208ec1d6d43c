use Rattle.std.proofs.Common.{◌≡◌, map, take, drop, ◌++◌}
use Rattle.small_card.specs.EimOperations.{counted}
use Rattle.eim_table.proofs.entries.set_counter.Given as goal

abbrev pub invariant-loop-at : goal.invariant-loop-at
invariant-loop-at l = record {
  items : l.entries.items ≡ map (counted l.id l.counter) (take l.at l.fn.entries.items) ++ drop l.at l.fn.entries.items;
  room : l.entries.spare ≡ l.fn.entries.spare;
}
