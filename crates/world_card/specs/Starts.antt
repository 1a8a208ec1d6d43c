-- What the first line does to a bench.
use Rattle.std.specs.Prelude.{◌≡◌, ◌≤◌, ◌+◌, ℕ, true, false, List, Option, Result, Ok, Err}
use Rattle.iot_bytes.specs.Causes.{Rose}
use Rattle.chip_port.specs.Seen.{Seen, no_plan}
use Rattle.chip_port.specs.Rules.{Untouched}
use Rattle.small_card.specs.Cards.{FullCard}
use Rattle.small_card.specs.declared.types.Profile.{Profile}
use Rattle.card_store.specs.declared.ends.MakeError.{MakeError}
use Rattle.card_store.specs.declared.ends.MakeError.TheVariants as make
use Rattle.iot_schedule.specs.declared.types.Device.{Device}
use Rattle.modem_bank.specs.Modems.{Seen as ModemSeen}
use Rattle.small_world.specs.Worlds.{start_world}
use Rattle.world_card.specs.Benches.{IsOnBench}
use Rattle.world_card.specs.Counts.{Counted, answered_fate}

-- the card was made: the bench holds the world of this device, whose only mark is that of the next answer
pub record IsStarted (d : Device) (held : Option FullCard) (s t : Seen) : Type 0 where
  pub stands : (handed_in : List ModemSeen) → IsOnBench (s.marks.answers + 1) held t (start_world d handed_in)
  pub counts : Counted (answered_fate true) s t

-- a call failed: nothing was answered, and where the chip wasn't cut a break came
pub record IsUnstarted (s t : Seen) : Type 0 where
  pub told : t.told ≡ s.told
  pub marks : t.marks ≡ s.marks
  pub plans : t.tally.plans ≡ s.tally.plans
  pub most : t.tally.uses ≤ s.tally.uses + 10000
  pub broke : s.tally.cut ≡ false → Rose s.tally.breaks t.tally.breaks

abbrev pub StartsOn : Device → Result (Option FullCard) MakeError → Seen → Seen → Type 0
StartsOn d (Ok held) s t = IsStarted d held s t
StartsOn d (Err make.Failed) s t = IsUnstarted s t
StartsOn d (Err make.NoMemory) s t = Untouched no_plan s t

abbrev pub Starts : List ℕ → List Profile → Result (Option FullCard) MakeError → Seen → Seen → Type 0
Starts eid profiles end s t = StartsOn (record { eid = eid; profiles = profiles }) end s t
