-- One line as a step of the small world, before the modems are told.
use Rattle.std.specs.Prelude.{◌≡◌, ◌⊎◌, ◌<◌, ℕ, Bool, true, false, List, ◌++◌, Some, None, Result, Ok, Err}
use Rattle.chip_port.specs.Seen.{Seen}
use Rattle.small_card.specs.Histories.{full_of}
use Rattle.small_card.specs.declared.types.Command.{Command}
use Rattle.package_codec.specs.Replies.{unit_of}
use Rattle.iot_schedule.specs.declared.types.Line.{Line}
use Rattle.small_world.specs.Lines.{acted}
use Rattle.small_world.specs.Octets.{most_octets_sent, octets_sent}
use Rattle.small_world.specs.Printing.{printed}
use Rattle.small_world.specs.Runs.{Turn, MayTurn, given, is_boot}
use Rattle.small_world.specs.Stepping.{commanded}
use Rattle.small_world.specs.Stretches.{fate_of, is_far}
use Rattle.small_world.specs.Worlds.{SmallWorld}
use Rattle.world_card.specs.Benches.{HoldsWorld}
use Rattle.world_card.specs.Boots.{IsWokenFor, IsBefore}
use Rattle.world_card.specs.Counts.{Counted, answered_fate, short_fate}
use Rattle.iot_world.specs.Worlds.{StandsFor}
use Rattle.iot_world.specs.declared.ends.Halt.{Halt}
use Rattle.iot_world.specs.declared.ends.Halt.TheVariants.{Limit, Foreign, NoMemory}
use Rattle.iot_world.specs.declared.world.World.{World}

abbrev pub turn : Line → Bool → Bool → Turn
turn l lost taken = record { line = l; lost = lost; taken = taken }

-- the line took a turn: its text, the value and the bench are those of the step; the image of a boot that made a mark stands for the card
pub record IsActed (first : ℕ) (l : Line) (w : SmallWorld) (v : World) (s t : Seen) (before out : List ℕ) : Type 0 where
  pub lost : Bool
  pub taken : Bool
  pub may : MayTurn w (turn l lost taken)
  pub says : out ≡ before ++ printed w l lost
  pub stands : StandsFor first v t (acted l lost taken w)
  pub counts : Counted (fate_of w (turn l lost taken)) s t
  pub woken : is_boot l ≡ true → lost ≡ false → IsWokenFor (full_of (acted l lost taken w).history) t

-- a message passed the limit before anything reached the card
pub record IsUnsent (first : ℕ) (w : SmallWorld) (s t : Seen) : Type 0 where
  pub holds : HoldsWorld first t w
  pub plan : t.tally.plan ≡ w.plan
  pub counts : Counted (short_fate (is_far w.plan)) s t

-- a message passed the limit after the card answered a command without a unit
pub record IsUntold (first : ℕ) (l : Line) (w : SmallWorld) (s t : Seen) : Type 0 where
  pub command : Command
  pub given_is : given w l ≡ Some command
  pub no_unit : unit_of w.history command ≡ None
  pub holds : HoldsWorld first t (commanded command false w)
  pub plan : t.tally.plan ≡ None
  pub counts : Counted (answered_fate (is_far w.plan)) s t

pub record IsOverLimit (first : ℕ) (l : Line) (w : SmallWorld) (s t : Seen) : Type 0 where
  pub over : most_octets_sent < octets_sent (acted l false false w)
  pub bench : IsUnsent first w s t ⊎ IsUntold first l w s t

-- memory ran out behind the step
pub record IsActedShort (first : ℕ) (l : Line) (w : SmallWorld) (s t : Seen) : Type 0 where
  pub lost : Bool
  pub taken : Bool
  pub may : MayTurn w (turn l lost taken)
  pub holds : HoldsWorld first t (acted l lost taken w)
  pub counts : Counted (fate_of w (turn l lost taken)) s t
  pub woken : is_boot l ≡ true → lost ≡ false → IsWokenFor (full_of (acted l lost taken w).history) t

abbrev pub Acts : ℕ → Line → SmallWorld → Result (Unit {0}) Halt → World → Seen → Seen → List ℕ → List ℕ → Type 0
Acts first l w (Ok done) v s t before out = IsActed first l w v s t before out
Acts first l w (Err Limit) v s t before out = IsOverLimit first l w s t
Acts first l w (Err Foreign) v s t before out = ⊥
Acts first l w (Err NoMemory) v s t before out = IsBefore first w s t ⊎ IsActedShort first l w s t
