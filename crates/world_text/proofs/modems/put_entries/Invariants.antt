use Rattle.std.proofs.Common.{◌≡◌, map, take, ◌++◌}
use Rattle.std.specs.List.{flat_map}
use Rattle.modem_bank.specs.Modems.{Seen}
use Rattle.small_world.specs.Texts.{modem_entry}
use Rattle.world_text.specs.Putting.{PutsOne}
use Rattle.world_text.proofs.modems.put_entries.Given as goal

abbrev pub invariant-loop-modem : goal.invariant-loop-modem
invariant-loop-modem g l = record {
  callable : goal.G-IsAlwaysCallable g l.put;
  put : (view : _ → Seen) → PutsOne g.G.Fn l.put view → l.out ≡ l.fn.out ++ flat_map modem_entry (map view (take l.modem-index l.modems));
}
