-- The lines that a reader can give.
use Rattle.std.specs.Prelude.{◌≤◌}
use Rattle.std.specs.List.{AllPass}
use Rattle.sgp_values.specs.Eids.{IsEid}
use Rattle.sgp_values.specs.Ranges.{IsEimId, IsAddress, IsKey, is_octet}
use Rattle.small_card.specs.Ranges.{IsNumber, IsBody, IsTable, greatest_counter}
use Rattle.iot_schedule.specs.declared.types.Device.{Device}
use Rattle.iot_schedule.specs.declared.types.Pick.{Pick}
use Rattle.iot_schedule.specs.declared.types.Pick.TheVariants.{At, Last}
use Rattle.iot_schedule.specs.declared.types.Line.{Line}
use Rattle.iot_schedule.specs.declared.types.Line.TheVariants as line

-- The EID is one, and the profiles fit a table.
pub record IsDevice (d : Device) : Type 0 where
  pub eid : IsEid d.eid
  pub profiles : IsTable d.profiles

-- A message is named by a number of 32 bits, or as the newest one.
abbrev pub IsPick : Pick → Type 0
IsPick (At n) = n ≤ 4294967295
IsPick Last = Unit {0}

-- Each value of a line is in its range.
unfoldable pub IsStep : Line → Type 0
IsStep (line.Eim id) = IsEimId id
IsStep (line.Initial id address key) = IsEimId id × IsAddress address × IsKey key
IsStep (line.Bind id association last) = IsEimId id × IsNumber association × (last ≤ greatest_counter)
IsStep (line.Order id operations) = IsEimId id × IsBody operations
IsStep (line.Skip id) = IsEimId id
IsStep (line.Poll id) = IsEimId id
IsStep (line.Up pick) = IsPick pick
IsStep (line.Down pick good) = IsPick pick
IsStep (line.Load good bytes) = AllPass is_octet bytes
IsStep line.Push = Unit {0}
IsStep (line.Probe passed) = Unit {0}
IsStep line.Rollback = Unit {0}
IsStep line.Restart = Unit {0}
IsStep (line.Cut calls tear) = calls ≤ 4294967295
IsStep line.Boot = Unit {0}
IsStep line.Show = Unit {0}
IsStep (line.Kept id) = IsEimId id
IsStep (line.Detach at) = at ≤ 4294967295
IsStep line.Modems = Unit {0}
