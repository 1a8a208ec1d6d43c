use Rattle.std.proofs.Common.{◌≡◌, ◌≤◌, ◌*◌, take}
use Rattle.chip_port.specs.Rules.{IfTold, Takes}
use Rattle.undo_journal.specs.Home.{home_in}
use Rattle.card_store.specs.Looking.{Looks}
use Rattle.card_store.proofs.reading.read_home.Given as goal

abbrev pub invariant-loop-block : goal.invariant-loop-block
invariant-loop-block g l =
    let s0 = g.C.Chip.sees l.fn.chip in
    let s = g.C.Chip.sees l.chip in
    record {
      told : s.told ≡ s0.told;
      monotone : s0.faults ≤ s.faults;
      spare : Takes 0 0 s0 s;
      looks : IfTold s0 (Looks l.block s0 s);
      home : IfTold s0 (l.home ≡ take (256 * l.block) (home_in s0.reads));
    }
