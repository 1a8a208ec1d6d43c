use Rattle.std.proofs.Common.{◌≡◌, ◌+◌, ◌*◌, length, take, ◌∷◌}
use Rattle.undo_journal.specs.Steps.{spelled}
use Rattle.undo_journal.proofs.directory.spell.Given as goal

abbrev pub invariant-loop-entry : goal.invariant-loop-entry
invariant-loop-entry l = record {
  size : length l.out ≡ 1348;
  so_far : take (2 + 2 * l.entry) l.out ≡ spelled (length l.blocks ∷ take l.entry l.blocks);
}
