-- The first line of a schedule: the device's card is personalised, and the modems are told.
use Rattle.std.specs.Prelude.{◌+◌, true, List, Result, Ok, Err}
use Rattle.chip_port.specs.Rules.{Untouched}
use Rattle.chip_port.specs.Seen.{Seen, no_plan}
use Rattle.card_store.specs.declared.ends.MakeError.{MakeError}
use Rattle.card_store.specs.declared.ends.MakeError.TheVariants as make
use Rattle.iot_schedule.specs.declared.types.Device.{Device}
use Rattle.modem_bank.specs.Modems.{Seen as ModemSeen}
use Rattle.small_world.specs.Worlds.{start_world}
use Rattle.world_card.specs.Counts.{Counted, answered_fate}
use Rattle.world_card.specs.Starts.{IsUnstarted}
use Rattle.iot_world.specs.Turns.{StandsWith}
use Rattle.iot_world.specs.declared.world.World.{World}

-- The value, the bench and the modems stand for the start world of the device, whose only mark is that of the next
-- answer.
pub record IsBegun (d : Device) (handed_in : List ModemSeen) (v : World) (s t : Seen) (modems : List ModemSeen) : Type 0 where
  pub stands : StandsWith (s.marks.answers + 1) v t modems (start_world d handed_in)
  pub counts : Counted (answered_fate true) s t

-- How the first line ends.
abbrev pub Begins : Device → List ModemSeen → Result World MakeError → Seen → Seen → List ModemSeen → Type 0
Begins d handed_in (Ok v) s t modems = IsBegun d handed_in v s t modems
Begins d handed_in (Err make.Failed) s t modems = IsUnstarted s t
Begins d handed_in (Err make.NoMemory) s t modems = Untouched no_plan s t
