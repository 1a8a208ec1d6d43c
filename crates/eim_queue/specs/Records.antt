-- The records of an eIM, which keeps no other result.
use Rattle.std.specs.Prelude.{◌≡◌, List, map, Some}
use Rattle.small_card.specs.Lists.{Every}
use Rattle.small_card.specs.declared.types.PackageResult.{PackageResult}
use Rattle.esipa_codec.specs.Records.{key, keys, record_of}

-- These rows are the records of all that was received, in the order of first receiving.
pub record AreRecords (rows received : List PackageResult) : Type 0 where
  pub order : map key rows ≡ keys received
  pub each : Every (λ r. record_of r.association r.counter received ≡ Some r) rows
