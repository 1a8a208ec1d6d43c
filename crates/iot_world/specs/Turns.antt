-- One line of a schedule as a step of the small world, at whose end the modems are told.
use Rattle.std.specs.Prelude.{◌≡◌, ◌⊎◌, ℕ, Bool, true, false, List, ◌++◌, Option, Some, None, Result, Ok, Err}
use Rattle.chip_port.specs.Seen.{Seen}
use Rattle.small_card.specs.Cards.{FullCard}
use Rattle.small_card.specs.Histories.{full_of}
use Rattle.small_card.specs.Profiles.{enabled_of}
use Rattle.modem_bank.specs.Modems.{Seen as ModemSeen, told, KeepsShowing}
use Rattle.iot_schedule.specs.declared.types.Line.{Line}
use Rattle.small_world.specs.Printing.{printed}
use Rattle.small_world.specs.Runs.{MayTurn, after_turn, is_boot}
use Rattle.small_world.specs.Stretches.{fate_of}
use Rattle.small_world.specs.Worlds.{SmallWorld}
use Rattle.world_card.specs.Boots.{IsWokenFor, IsBefore}
use Rattle.world_card.specs.Counts.{Counted}
use Rattle.iot_world.specs.Steps.{IsActedShort, IsOverLimit, turn}
use Rattle.iot_world.specs.Worlds.{StandsFor}
use Rattle.iot_world.specs.declared.ends.Halt.{Halt}
use Rattle.iot_world.specs.declared.ends.Halt.TheVariants.{Limit, Foreign, NoMemory}
use Rattle.iot_world.specs.declared.world.World.{World}

-- The value and the bench stand for the world, and the lent modems show and count what its modems do.
pub record StandsWith (first : ℕ) (v : World) (s : Seen) (modems : List ModemSeen) (w : SmallWorld) : Type 0 where
  pub world : StandsFor first v s w
  pub same_modems : modems ≡ w.modems

-- The modems are told by a lit card which profile it has enabled, and by a dark one nothing.
abbrev pub told_by : Option FullCard → List ModemSeen → List ModemSeen
told_by None ms = ms
told_by (Some f) ms = told (enabled_of f.card.profiles) ms

-- A modem that shows what is enabled now is the very same afterwards; all are, where the card is dark.
abbrev pub KeepsBy : {M : Type 0} → (M → Option (List ℕ)) → Option FullCard → List M → List M → Type 0
KeepsBy shown None before after = after ≡ before
KeepsBy shown (Some f) before after = KeepsShowing shown (enabled_of f.card.profiles) before after

-- The line took a turn: its text, the value, the bench and the modems are those of the step; the image of a boot that
-- made a mark stands for the card.
pub record IsTurned (first : ℕ) (l : Line) (w : SmallWorld) (v : World) (s t : Seen) (modems : List ModemSeen) (before out : List ℕ) : Type 0 where
  pub lost : Bool
  pub taken : Bool
  pub may : MayTurn w (turn l lost taken)
  pub says : out ≡ before ++ printed w l lost
  pub stands : StandsWith first v t modems (after_turn w (turn l lost taken))
  pub counts : Counted (fate_of w (turn l lost taken)) s t
  pub woken : is_boot l ≡ true → lost ≡ false → IsWokenFor (full_of (after_turn w (turn l lost taken)).history) t

-- How a line ends, in a world that the value, the bench and the modems stand for.
abbrev pub Turns : ℕ → Line → SmallWorld → Result (Unit {0}) Halt → World → Seen → Seen → List ModemSeen → List ℕ → List ℕ → Type 0
Turns first l w (Ok done) v s t modems before out = IsTurned first l w v s t modems before out
Turns first l w (Err Limit) v s t modems before out = IsOverLimit first l w s t × (modems ≡ w.modems)
Turns first l w (Err Foreign) v s t modems before out = ⊥
Turns first l w (Err NoMemory) v s t modems before out = IsBefore first w s t ⊎ IsActedShort first l w s t
