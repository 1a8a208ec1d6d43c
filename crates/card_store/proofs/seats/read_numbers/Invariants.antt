use Rattle.std.proofs.Common.{◌≡◌, ◌≤◌, ◌<◌, ℕ, List, length}
use Rattle.std.specs.Prelude.{Option}
use Rattle.chip_port.specs.Rules.{IfTold, Takes}
use Rattle.undo_journal.specs.Home.{home_in}
use Rattle.small_card.specs.declared.types.PackageResult.{PackageResult}
use Rattle.card_store.specs.Looking.{Looks}
use Rattle.card_store.specs.Slots.{StandIn, number_in, numbers_of}
use Rattle.card_store.proofs.seats.read_numbers.Given as goal

abbrev pub invariant-loop-slot : goal.invariant-loop-slot
invariant-loop-slot g l =
    let s0 = g.C.Chip.sees l.fn.chip in
    let s = g.C.Chip.sees l.chip in
    record {
      told : s.told ≡ s0.told;
      monotone : s0.faults ≤ s.faults;
      spare : Takes 0 0 s0 s;
      looks : IfTold s0 (Looks l.slot s0 s);
      all : length l.numbers ≡ 8;
      numbers : IfTold s0 ((places : List (Option PackageResult)) → StandIn places (home_in s0.reads) → (slot : ℕ) → slot < l.slot → number_in l.numbers slot ≡ number_in (numbers_of places) slot);
    }
