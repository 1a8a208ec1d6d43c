-- Which octets an EID may have.
use Rattle.std.specs.Prelude.{◌≡◌, ℕ, List, length}
use Rattle.std.specs.List.{AllPass}
use Rattle.sgp_values.specs.Ranges.{is_octet}

-- sixteen octets
pub record IsEid (octets : List ℕ) : Type 0 where
  pub len : length octets ≡ 16
  pub each : AllPass is_octet octets
