-- Which lines are a schedule.
use Rattle.std.specs.Prelude.{◌≢◌, ℕ, List, [], ◌∷◌, None}
use Rattle.std.specs.List.{AllByRecursion}
use Rattle.iot_schedule.specs.Devices.{device_at}
use Rattle.iot_schedule.specs.Steps.{step_at}

-- A line behind the first one.
abbrev pub IsStepLine : List ℕ → Type 0
IsStepLine text = step_at text ≢ None

-- The first line spells a device, and each other one something that happens.
abbrev pub AreInGrammar : List (List ℕ) → Type 0
AreInGrammar [] = Unit {0}
AreInGrammar (first ∷ steps) = (device_at first ≢ None) × AllByRecursion IsStepLine steps
