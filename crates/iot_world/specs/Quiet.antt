-- Lines that don't reach the card.
use Rattle.std.specs.Prelude.{◌≡◌, ◌<◌, ℕ, false, List, ◌++◌, Result, Ok, Err}
use Rattle.iot_schedule.specs.declared.types.Line.{Line}
use Rattle.small_world.specs.Lines.{acted}
use Rattle.small_world.specs.Octets.{most_octets_sent, octets_sent}
use Rattle.small_world.specs.Printing.{printed}
use Rattle.small_world.specs.Worlds.{SmallWorld}
use Rattle.world_network.specs.Networks.{Parts, IsNetwork}
use Rattle.iot_world.specs.declared.ends.Halt.{Halt}
use Rattle.iot_world.specs.declared.ends.Halt.TheVariants.{Limit, Foreign, NoMemory}

-- the line's text was printed, and the network stands for the world after it
pub record IsQuiet (l : Line) (w : SmallWorld) (now : Parts) (before out : List ℕ) : Type 0 where
  pub says : out ≡ before ++ printed w l false
  pub network : IsNetwork now (acted l false false w)

-- how the line ends in a world that the network stands for: `Limit` only where a message passes the limit
abbrev pub QuietEnd : Line → SmallWorld → Result (Unit {0}) Halt → Parts → List ℕ → List ℕ → Type 0
QuietEnd l w (Ok done) now before out = IsQuiet l w now before out
QuietEnd l w (Err Limit) now before out = most_octets_sent < octets_sent (acted l false false w)
QuietEnd l w (Err Foreign) now before out = ⊥
QuietEnd l w (Err NoMemory) now before out = Unit {0}

-- the same in every such world
abbrev pub Quiets : Line → Result (Unit {0}) Halt → Parts → Parts → List ℕ → List ℕ → Type 0
Quiets l result old now before out = (w : SmallWorld) → IsNetwork old w → QuietEnd l w result now before out
