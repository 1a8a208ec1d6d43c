-- A line whose text needs memory.
use Rattle.std.specs.Prelude.{Result, Ok, Err}
use Rattle.iot_bytes.specs.declared.memory.NoMemory.{NoMemory}
use Rattle.iot_world.specs.declared.ends.Halt.{Halt}
use Rattle.iot_world.specs.declared.ends.Halt.TheVariants as halt

-- the line halts where memory ran out for its text
abbrev pub halting : Result (Unit {0}) NoMemory → Result (Unit {0}) Halt
halting (Ok done) = Ok done
halting (Err e) = Err halt.NoMemory
