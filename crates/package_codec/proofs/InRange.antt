-- What is read from octets is in range.
use Rattle.sgp_values.proofs.Octets.{bounds_from_AllPass}
use Rattle.package_codec.proofs.Packages.{signed_takes}
use Rattle.package_codec.proofs.Replying.{ReadsInRange}

pub reads_in_range : ReadsInRange
reads_in_range bytes s octets e = (signed_takes bytes s (bounds_from_AllPass bytes octets) e).0
