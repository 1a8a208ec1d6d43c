use Rattle.std.proofs.Common.{◌≡◌, map, take, drop, ◌++◌}
use Rattle.small_card.specs.EimOperations.{with_fields}
use Rattle.eim_table.proofs.entries.set_fields.Given as goal

abbrev pub invariant-loop-at : goal.invariant-loop-at
invariant-loop-at l = record {
  items : l.entries.items ≡ map (with_fields l.id l.address l.key) (take l.at l.fn.entries.items) ++ drop l.at l.fn.entries.items;
  room : l.entries.spare ≡ l.fn.entries.spare;
}
