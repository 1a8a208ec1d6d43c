-- The first units of a history.
use Rattle.std.specs.Prelude.{ℕ, ◌-◌, List, drop, length}
use Rattle.small_card.specs.Units.{CardUnit}
use Rattle.small_card.specs.Histories.{History}

-- The oldest k of the units: those behind all newer ones.
unfoldable pub oldest : ℕ → List CardUnit → List CardUnit
oldest k us = drop (length us - k) us

-- The history with its first k units.
unfoldable pub first_units : ℕ → History → History
first_units k h = record h { units = oldest k h.units }
