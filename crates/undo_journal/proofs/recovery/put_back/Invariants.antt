use Rattle.std.proofs.Common.{◌≡◌, List, ℕ, drop, ◌+◌, ◌*◌, ◌≤◌, true}
use Rattle.chip_port.specs.Runs.{Ran}
use Rattle.undo_journal.specs.Home.{entries, home_in, put_back as home_with}
use Rattle.undo_journal.specs.States.{IsOpenOver, EachOf}
use Rattle.undo_journal.proofs.recovery.put_back.Given as goal

abbrev pub invariant-loop-at : goal.invariant-loop-at
invariant-loop-at g l = record {
  told : (g.C.Chip.sees l.chip).told ≡ (g.C.Chip.sees l.fn.chip).told;
  monotone : (g.C.Chip.sees l.fn.chip).faults ≤ (g.C.Chip.sees l.chip).faults;
  calls : (g.C.Chip.sees l.fn.chip).spare.calls ≤ (g.C.Chip.sees l.chip).spare.calls + l.at;
  octets : (g.C.Chip.sees l.fn.chip).spare.octets ≤ (g.C.Chip.sees l.chip).spare.octets + 256 * l.at;
  run : (g.C.Chip.sees l.fn.chip).told ≡ true → (copies before : List ℕ) → EachOf (g.C.Chip.sees l.fn.chip).leaves (IsOpenOver (entries l.directory) copies before)
      → Ran (2 * l.at) true (IsOpenOver (entries l.directory) copies before) (g.C.Chip.sees l.fn.chip) (g.C.Chip.sees l.chip)
      × (home_with (drop l.at (entries l.directory)) (drop (256 * l.at) copies) (home_in (g.C.Chip.sees l.chip).reads) ≡ before);
}
