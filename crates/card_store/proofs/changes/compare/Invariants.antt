use Rattle.std.proofs.Common.{◌≡◌, ◌≤◌, ◌+◌, ◌-◌, ◌*◌, length, take}
use Rattle.chip_port.specs.Rules.{IfTold, Takes}
use Rattle.undo_journal.specs.Home.{home_in}
use Rattle.card_store.specs.Looking.{Looks}
use Rattle.card_store.specs.Comparing.{Lists, Compared}
use Rattle.card_store.proofs.changes.compare.Given as goal

abbrev pub invariant-loop-at : goal.invariant-loop-at
invariant-loop-at g l =
    let s0 = g.C.Chip.sees l.fn.chip in
    let s = g.C.Chip.sees l.chip in
    record {
      told : s.told ≡ s0.told;
      monotone : s0.faults ≤ s.faults;
      spare : Takes 0 0 s0 s;
      within : 256 * l.at ≤ length l.octets + 255;
      looks : IfTold s0 (Looks l.at s0 s);
      listed : Lists l.first (l.first + l.at) l.fn.changes l.changes;
      compared : IfTold s0 (Compared l.first (l.first + l.at) (take (256 * l.at) l.octets) l.fn.changes l.changes (home_in s0.reads));
    }

abbrev pub decreases-loop-at : goal.decreases-loop-at
decreases-loop-at g l = length l.octets - 256 * l.at
