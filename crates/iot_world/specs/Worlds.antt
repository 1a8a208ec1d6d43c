-- The worlds that the network, the card and the bench stand for.
use Rattle.std.specs.Prelude.{ℕ}
use Rattle.chip_port.specs.Seen.{Seen}
use Rattle.small_world.specs.Worlds.{SmallWorld}
use Rattle.world_card.specs.Benches.{IsOnBench}
use Rattle.world_network.specs.Networks.{IsNetwork}
use Rattle.iot_world.specs.declared.world.World.{World}

-- the network stands for the eIMs, the assistant and the messages, and the card and its bench for the rest but the modems
pub record StandsFor (first : ℕ) (v : World) (s : Seen) (w : SmallWorld) : Type 0 where
  pub network : IsNetwork v.network w
  pub card : IsOnBench first v.card s w
