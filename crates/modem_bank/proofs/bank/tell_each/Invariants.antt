use Rattle.std.proofs.Common.{◌≡◌, ℕ, List, Option, map, take, drop, ◌++◌}
use Rattle.modem_bank.specs.Modems.{Seen, told, KeepsShowing}
use Rattle.modem_bank.specs.Telling.{TellsOne, KeepsOne}
use Rattle.modem_bank.proofs.bank.tell_each.Given as goal

-- the modems before the index are told, and the others are as they were
abbrev pub invariant-loop-modem : goal.invariant-loop-modem
invariant-loop-modem g l =
    let at = l.modem-index in
    let before = l.initial.modem-items in
    record {
      callable : goal.F-IsAlwaysCallable g l.one;
      seen : (view : _ → Seen) → TellsOne g.F.Fn l.one view → map view l.modem-items ≡ told l.now (map view (take at before)) ++ map view (drop at before);
      kept : (shown : _ → Option (List ℕ)) → KeepsOne g.F.Fn l.one shown → KeepsShowing shown l.now before l.modem-items;
    }
