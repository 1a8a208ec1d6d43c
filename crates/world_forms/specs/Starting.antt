-- Before its first line a part came to no world, and its bench and modems are as they were.
use Rattle.std.proofs.Common.{◌≡◌, List, [], Option, None, refl, sym, subst}
use Rattle.chip_port.specs.Rules.{Untouched}
use Rattle.chip_port.specs.Seen.{Seen}
use Rattle.iot_world.specs.declared.world.World.{World}
use Rattle.modem_bank.specs.Modems.{Seen as ModemSeen}
use Rattle.world_forms.specs.Replays.{no_change}
use Rattle.world_forms.specs.Walks.{Began, IsAt, Led}

pub untouched_same : (s : Seen) → Untouched no_change s s
untouched_same s = record {
  told = refl;
  faults = refl;
  keeps = record { reads = refl; leaves = λ c. (λ it. it, λ it. it); marks = refl };
  left = λ n c. (λ it. it, λ it. it);
  tally_is = refl;
}

pub began_nowhere : (world : Option World) (s : Seen) → world ≡ None → Began world s s []
began_nowhere world s fresh = record {
  fit = tt;
  begun = (λ _. refl, λ _. fresh);
  unbegun = λ _. untouched_same s;
}

pub led_nowhere : (world : Option World) (handed_in : List ModemSeen) (s : Seen) → world ≡ None → Led world handed_in s s handed_in [] []
led_nowhere world handed_in s fresh = λ told. subst (λ (o : Option World). IsAt o handed_in s s handed_in [] []) (sym fresh) (record {
  none = refl;
  silent = refl;
  bench = untouched_same s;
  same = refl;
})
