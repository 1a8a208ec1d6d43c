-- The lines of a schedule, the run of the small world that they make, and its trace.
use Rattle.std.specs.Prelude.{◌≡◌, true, List, [], ℕ, ◌∷◌, length, map, Some}
use Rattle.iot_schedule.specs.Devices.{device_at}
use Rattle.iot_schedule.specs.Steps.{step_at}
use Rattle.iot_schedule.specs.declared.types.Device.{Device}
use Rattle.iot_schedule.specs.declared.types.Line.{Line}
use Rattle.line_loop.specs.Lines.{lined}
use Rattle.modem_bank.specs.Modems.{Seen as ModemSeen}
use Rattle.small_card.specs.Legal.{IsLegal, IsOnce}
use Rattle.small_world.specs.Lossless.{NoneLost, Made}
use Rattle.small_world.specs.Printing.{device_printed}
use Rattle.small_world.specs.Runs.{IsRunOver, Turn, kept_on, world_after}
use Rattle.small_world.specs.Worlds.{SmallWorld, start_world}

-- These texts spell a device, and behind it these lines, in their order.
pub record AreSpelled (ls : List (List ℕ)) (device : Device) (lines : List Line) : Type 0 where
  pub first : List ℕ
  pub steps : List (List ℕ)
  pub lines_are : ls ≡ first ∷ steps
  pub device_is : device_at first ≡ Some device
  pub steps_are : map step_at steps ≡ map (λ l. Some l) lines

-- What is sent for a run: the text of its first line and of each later one, each with its end.
abbrev pub trace : Device → List (List ℕ) → List ℕ
trace device texts = lined (device_printed (length device.profiles) ∷ texts)

-- The packages of each eIM and association were taken once, in rising counters, and no result is lost or made up.
pub record IsLossless (w : SmallWorld) : Type 0 where
  pub legal : IsLegal w.history
  pub once : IsOnce w.history
  pub none_lost : NoneLost w.history w.eims
  pub made : Made w.history w.eims

-- One run of the small world over these texts, from the modems that were handed in: its start world, its lines, the
-- text of each, its turns with their choices, and the last world. The text is its trace.
pub record HasRun (handed_in : List ModemSeen) (ls : List (List ℕ)) (text : List ℕ) : Type 0 where
  pub device : Device
  pub lines : List Line
  pub texts : List (List ℕ)
  pub world : SmallWorld
  pub spelled : AreSpelled ls device lines
  pub run : IsRunOver (start_world device handed_in) lines texts world
  pub sent : text ≡ trace device texts
  pub once : IsLossless world

-- The world that such a run begins with, and its turns, the newest first.
abbrev pub start_of : {handed_in : List ModemSeen} {ls : List (List ℕ)} {text : List ℕ} → HasRun handed_in ls text → SmallWorld
start_of {handed_in} r = start_world r.device handed_in

abbrev pub turns_of : {handed_in : List ModemSeen} {ls : List (List ℕ)} {text : List ℕ} → HasRun handed_in ls text → List Turn
turns_of r = r.run.turns

-- Before each of these turns the card is lit.
abbrev pub AreLit : SmallWorld → List Turn → Type 0
AreLit start [] = Unit {0}
AreLit start (t ∷ ts) = ((world_after start ts).lit ≡ true) × AreLit start ts

-- A run without losses: its lines alone make it, and none prints `off`.
pub record IsCalm (start : SmallWorld) (turns : List Turn) : Type 0 where
  pub plain : turns ≡ map kept_on (map (λ t. t.line) turns)
  pub lit : AreLit start turns
