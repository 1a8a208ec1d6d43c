-- What a planned cut does to a card on its bench.
use Rattle.std.specs.Prelude.{ℕ, true, false, Option, Some, Result, Ok, Err}
use Rattle.iot_bytes.specs.declared.memory.NoMemory.{NoMemory}
use Rattle.chip_port.specs.Seen.{Seen}
use Rattle.chip_port.specs.declared.chip.Tear.{Tear}
use Rattle.small_card.specs.Cards.{FullCard}
use Rattle.small_world.specs.Stretches.{is_far}
use Rattle.small_world.specs.Worlds.{SmallWorld}
use Rattle.world_card.specs.Benches.{IsOnBench}
use Rattle.world_card.specs.Counts.{Counted}

-- the plan is this one, and one plan more was made
pub record IsPlanned (first : ℕ) (w : SmallWorld) (calls : ℕ) (tear : Tear) (held : Option FullCard) (s t : Seen) : Type 0 where
  pub stands : IsOnBench first held t (record w { plan = Some (calls, tear) })
  pub counts : Counted (record { lost = false; unplanned = is_far w.plan; marked = false; costly = false; planned = true }) s t

-- for want of memory nothing changes
abbrev pub Planned : ℕ → SmallWorld → ℕ → Tear → Result (Unit {0}) NoMemory → Option FullCard → Seen → Seen → Type 0
Planned first w calls tear (Ok done) held s t = IsPlanned first w calls tear held s t
Planned first w calls tear (Err e) held s t =
    IsOnBench first held t w × Counted (record { lost = false; unplanned = is_far w.plan; marked = false; costly = false; planned = false }) s t
