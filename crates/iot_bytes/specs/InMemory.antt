-- Sources and sinks in memory, and what a call changes of them.
use Rattle.std.specs.Prelude.{◌≡◌, ℕ, ◌+◌, ◌-◌, ◌^◌, min, List}

-- a source in memory: the octets still to come, and which of its calls fail
pub record MemInput : Type 0 where
  pub left : List ℕ
  pub piece : ℕ
  pub failing : List ℕ
  pub calls : ℕ
  pub faults : ℕ

-- a sink in memory: the octets taken, and which of its calls fail
pub record MemOutput : Type 0 where
  pub taken : List ℕ
  pub room : ℕ
  pub piece : ℕ
  pub failing : List ℕ
  pub calls : ℕ
  pub faults : ℕ

-- a call counts, and leaves the piece and the failing calls of a source
pub record InputCalled (before now : MemInput) : Type 0 where
  pub piece : now.piece ≡ before.piece
  pub failing : now.failing ≡ before.failing
  pub calls : now.calls ≡ min (before.calls + 1) (2 ^ 64 - 1)

-- a call counts, and leaves the room, the piece and the failing calls of a sink
pub record OutputCalled (before now : MemOutput) : Type 0 where
  pub room : now.room ≡ before.room
  pub piece : now.piece ≡ before.piece
  pub failing : now.failing ≡ before.failing
  pub calls : now.calls ≡ min (before.calls + 1) (2 ^ 64 - 1)
