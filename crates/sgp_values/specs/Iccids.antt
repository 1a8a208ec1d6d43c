-- Which octets an ICCID may have.
use Rattle.std.specs.Prelude.{◌≡◌, ℕ, List, length}
use Rattle.std.specs.List.{AllPass}
use Rattle.sgp_values.specs.Ranges.{is_octet}

-- ten octets
pub record IsIccid (octets : List ℕ) : Type 0 where
  pub len : length octets ≡ 10
  pub each : AllPass is_octet octets
