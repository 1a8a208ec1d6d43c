use Rattle.std.proofs.Common.{◌≡◌, ◌+◌, ◌*◌, ◌≤◌, length, take, drop, true}
use Rattle.chip_port.specs.Rules.{Torn}
use Rattle.chip_port.specs.Runs.{Ran}
use Rattle.undo_journal.specs.Steps.{directory_of}
use Rattle.undo_journal.specs.Home.{kept, home_in}
use Rattle.undo_journal.proofs.keep.copy_old.Given as goal

abbrev pub invariant-loop-entry : goal.invariant-loop-entry
invariant-loop-entry g l = record {
  told : (g.C.Chip.sees l.chip).told ≡ (g.C.Chip.sees l.fn.chip).told;
  monotone : (g.C.Chip.sees l.fn.chip).faults ≤ (g.C.Chip.sees l.chip).faults;
  calls : (g.C.Chip.sees l.fn.chip).spare.calls ≤ (g.C.Chip.sees l.chip).spare.calls + (l.entry + 1);
  octets : (g.C.Chip.sees l.fn.chip).spare.octets ≤ (g.C.Chip.sees l.chip).spare.octets + (2 + 2 * length l.blocks + 256 * l.entry);
  ran : (g.C.Chip.sees l.fn.chip).told ≡ true → Ran (2 * l.entry + 1) true (Torn 512 173824 (g.C.Chip.sees l.fn.chip).reads) (g.C.Chip.sees l.fn.chip) (g.C.Chip.sees l.chip);
  directory : (g.C.Chip.sees l.fn.chip).told ≡ true → take (2 + 2 * length l.blocks) (drop 512 (g.C.Chip.sees l.chip).reads) ≡ directory_of l.blocks;
  copies : (g.C.Chip.sees l.fn.chip).told ≡ true → take (256 * l.entry) (drop 2048 (g.C.Chip.sees l.chip).reads) ≡ kept (take l.entry l.blocks) (home_in (g.C.Chip.sees l.fn.chip).reads);
}
