-- What a line does, by how it ends, before it is told as a part of a run.
use Rattle.std.specs.Prelude.{◌≡◌, ◌≢◌, ◌⊎◌, ℕ, true, false, List, [], ◌∷◌, ◌++◌, length, Option, Some, None, Result, Ok, Err}
use Rattle.chip_port.specs.Rules.{Untouched}
use Rattle.chip_port.specs.Seen.{Seen, no_plan}
use Rattle.iot_schedule.specs.Devices.{device_at}
use Rattle.iot_schedule.specs.Steps.{step_at}
use Rattle.iot_schedule.specs.declared.types.Device.{Device}
use Rattle.iot_schedule.specs.declared.types.Line.{Line}
use Rattle.iot_world.specs.Starts.{IsBegun}
use Rattle.iot_world.specs.Steps.{IsOverLimit}
use Rattle.iot_world.specs.Turns.{StandsWith}
use Rattle.iot_world.specs.declared.ends.Halt.{Halt}
use Rattle.iot_world.specs.declared.ends.Halt.TheVariants as halt
use Rattle.iot_world.specs.declared.world.World.{World}
use Rattle.line_loop.specs.declared.halt.LineStop.{LineStop}
use Rattle.line_loop.specs.declared.halt.LineStop.TheVariants.{ChipFault, Malformed, Limit, Unrecognised, NoMemory}
use Rattle.modem_bank.specs.Modems.{Seen as ModemSeen}
use Rattle.small_card.specs.Histories.{full_of}
use Rattle.small_world.specs.Printing.{device_printed, printed}
use Rattle.small_world.specs.Runs.{MayTurn, Turn, after_turn, is_boot}
use Rattle.small_world.specs.Stretches.{fate_of}
use Rattle.small_world.specs.Worlds.{SmallWorld}
use Rattle.world_card.specs.Benches.{HoldsWorld}
use Rattle.world_card.specs.Boots.{IsWokenFor, IsBefore}
use Rattle.world_card.specs.Counts.{Counted}
use Rattle.card_store.specs.declared.ends.MakeError.{MakeError}
use Rattle.card_store.specs.declared.ends.MakeError.TheVariants as make
use Rattle.world_forms.specs.Replays.{IsUnmade, no_change}

-- Why a card isn't made, and why a step halts.
abbrev pub of_make : MakeError → LineStop
of_make make.Failed = ChipFault
of_make make.NoMemory = NoMemory

abbrev pub of_halt : Halt → LineStop
of_halt halt.Limit = Limit
of_halt halt.Foreign = Unrecognised
of_halt halt.NoMemory = NoMemory

-- A text spells this value, or none, or memory is wanting.
abbrev pub Spells : {X : Type 0} → Option X → Result X LineStop → Type 0
Spells read (Ok x) = read ≡ Some x
Spells read (Err Malformed) = read ≡ None
Spells read (Err NoMemory) = Unit {0}
Spells read (Err other) = ⊥

-- A line is malformed exactly where it spells nothing, unless memory is wanting.
abbrev pub IsReadAs : {X T : Type 0} → Option X → Result T LineStop → Type 0
IsReadAs read (Ok done) = read ≢ None
IsReadAs read (Err ChipFault) = read ≢ None
IsReadAs read (Err Malformed) = read ≡ None
IsReadAs read (Err Limit) = read ≢ None
IsReadAs read (Err Unrecognised) = read ≢ None
IsReadAs read (Err NoMemory) = Unit {0}

-- A text was appended.
abbrev pub Grows : List ℕ → List ℕ → Type 0
Grows before after = (text : List ℕ) × (after ≡ before ++ text)

-- The first line made the card of its device.
pub record HasBegun (handed_in : List ModemSeen) (f : List ℕ) (v : World) (s t : Seen) (modems : List ModemSeen) (before out : List ℕ) : Type 0 where
  pub device : Device
  pub spelled : device_at f ≡ Some device
  pub begun : IsBegun device handed_in v s t modems
  pub says : out ≡ before ++ (device_printed (length device.profiles) ++ 10 ∷ [])

-- How the first line ends.
abbrev pub BeginsBy : List ModemSeen → List ℕ → Result World LineStop → Seen → Seen → List ModemSeen → List ℕ → List ℕ → Type 0
BeginsBy handed_in f (Ok v) s t modems before out = HasBegun handed_in f v s t modems before out
BeginsBy handed_in f (Err ChipFault) s t modems before out = IsUnmade s t f
BeginsBy handed_in f (Err Malformed) s t modems before out = Untouched no_change s t
BeginsBy handed_in f (Err Limit) s t modems before out = ⊥
BeginsBy handed_in f (Err Unrecognised) s t modems before out = ⊥
BeginsBy handed_in f (Err NoMemory) s t modems before out = Untouched no_change s t ⊎ Untouched no_plan s t

-- A further line took a turn.
pub record HasTurned (first : ℕ) (f : List ℕ) (w : SmallWorld) (v : World) (s t : Seen) (modems : List ModemSeen) (before out : List ℕ) : Type 0 where
  pub turn : Turn
  pub spelled : step_at f ≡ Some turn.line
  pub may : MayTurn w turn
  pub says : out ≡ before ++ (printed w turn.line turn.lost ++ 10 ∷ [])
  pub stands : StandsWith first v t modems (after_turn w turn)
  pub counts : Counted (fate_of w turn) s t
  pub woken : is_boot turn.line ≡ true → turn.lost ≡ false → IsWokenFor (full_of (after_turn w turn).history) t

-- It did, and memory ran out behind it.
pub record HasTurnedShort (first : ℕ) (f : List ℕ) (w : SmallWorld) (s t : Seen) : Type 0 where
  pub turn : Turn
  pub spelled : step_at f ≡ Some turn.line
  pub may : MayTurn w turn
  pub holds : HoldsWorld first t (after_turn w turn)
  pub counts : Counted (fate_of w turn) s t
  pub woken : is_boot turn.line ≡ true → turn.lost ≡ false → IsWokenFor (full_of (after_turn w turn).history) t

-- A message of it passes the limit.
pub record HasPassed (first : ℕ) (f : List ℕ) (w : SmallWorld) (s t : Seen) (modems : List ModemSeen) : Type 0 where
  pub line : Line
  pub spelled : step_at f ≡ Some line
  pub over : IsOverLimit first line w s t
  pub same : modems ≡ w.modems

-- How a further line ends.
abbrev pub GoesOn : ℕ → List ℕ → SmallWorld → Result (Unit {0}) LineStop → World → Seen → Seen → List ModemSeen → List ℕ → List ℕ → Type 0
GoesOn first f w (Ok done) v s t modems before out = HasTurned first f w v s t modems before out
GoesOn first f w (Err ChipFault) v s t modems before out = ⊥
GoesOn first f w (Err Malformed) v s t modems before out = Unit {0}
GoesOn first f w (Err Limit) v s t modems before out = HasPassed first f w s t modems
GoesOn first f w (Err Unrecognised) v s t modems before out = ⊥
GoesOn first f w (Err NoMemory) v s t modems before out = IsBefore first w s t ⊎ HasTurnedShort first f w s t
