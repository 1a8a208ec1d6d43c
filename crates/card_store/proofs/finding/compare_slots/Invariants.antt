use Rattle.std.proofs.Common.{◌≡◌, ◌≤◌, ◌+◌, ◌*◌}
use Rattle.chip_port.specs.Rules.{IfTold, Takes}
use Rattle.undo_journal.specs.Home.{home_in}
use Rattle.small_card.specs.Cards.{FullCard}
use Rattle.card_store.specs.Looking.{Looks}
use Rattle.card_store.specs.Seats.{places_of}
use Rattle.card_store.specs.Comparing.{Lists, Fronted}
use Rattle.card_store.proofs.finding.compare_slots.Given as goal

abbrev pub invariant-loop-slot : goal.invariant-loop-slot
invariant-loop-slot g l =
    let s0 = g.C.Chip.sees l.fn.chip in
    let s = g.C.Chip.sees l.chip in
    record {
      told : s.told ≡ s0.told;
      monotone : s0.faults ≤ s.faults;
      spare : Takes 0 0 s0 s;
      looks : IfTold s0 (Looks (72 * l.slot) s0 s);
      listed : Lists 25 (25 + 81 * l.slot) l.fn.changes l.changes;
      fronted : IfTold s0 ((f : FullCard) → Fronted f (places_of l.pending l.seats) 0 l.fn.changes (home_in s0.reads) → Fronted f (places_of l.pending l.seats) l.slot l.changes (home_in s0.reads));
    }
