-- A line gives the card a command that nobody carries.
use Rattle.std.specs.Prelude.{◌≡◌, ◌⊎◌, ℕ, Bool, true, false, not, ◌&&◌, List, ◌++◌, Result, Ok, Err}
use Rattle.chip_port.specs.Seen.{Seen, is_due}
use Rattle.small_card.specs.declared.types.Command.{Command}
use Rattle.small_world.specs.Printing.{replied, step_text}
use Rattle.small_world.specs.Stepping.{commanded}
use Rattle.small_world.specs.Stretches.{Fate, is_far}
use Rattle.small_world.specs.Worlds.{SmallWorld}
use Rattle.world_card.specs.Counts.{Counted}
use Rattle.world_card.specs.Boots.{IsBefore}
use Rattle.iot_world.specs.Asking.{IsCutOff}
use Rattle.iot_world.specs.Worlds.{StandsFor}
use Rattle.iot_world.specs.declared.ends.Halt.{Halt}
use Rattle.iot_world.specs.declared.ends.Halt.TheVariants.{Limit, Foreign, NoMemory}
use Rattle.iot_world.specs.declared.world.World.{World}

-- what a line that gives a command does to the counts
abbrev pub fate_in : SmallWorld → Bool → Fate
fate_in w lost = record { lost = lost; unplanned = is_far w.plan; marked = w.lit && not lost; costly = true; planned = false }

-- only a lit card loses a step, and under a plan of no calls it does
pub record MayLose (w : SmallWorld) (lost : Bool) : Type 0 where
  pub lit : lost ≡ true → w.lit ≡ true
  pub due : is_due w.plan ≡ true → w.lit ≡ true → lost ≡ true

-- what the card said was printed
pub record IsCommanded (first : ℕ) (w : SmallWorld) (c : Command) (v : World) (s t : Seen) (before out : List ℕ) : Type 0 where
  pub lost : Bool
  pub may : MayLose w lost
  pub says : out ≡ before ++ step_text w lost (replied w c)
  pub stands : StandsFor first v t (commanded c lost w)
  pub counts : Counted (fate_in w lost) s t

abbrev pub Commands : ℕ → SmallWorld → Command → Result (Unit {0}) Halt → World → Seen → Seen → List ℕ → List ℕ → Type 0
Commands first w c (Ok done) v s t before out = IsCommanded first w c v s t before out
Commands first w c (Err Limit) v s t before out = ⊥
Commands first w c (Err Foreign) v s t before out = ⊥
Commands first w c (Err NoMemory) v s t before out = IsBefore first w s t ⊎ IsCutOff first w c s t
