use Rattle.sgp_fields.proofs.Clauses.{reads_spelled, reads_again}
use Rattle.package_codec.proofs.Packages.{signed_codec}
use Rattle.package_codec.proofs.laws.packages_are_read_back.Goals as goal

pub returns-clause-taken : goal.returns-clause-taken
returns-clause-taken c = reads_spelled signed_codec

pub returns-clause-again : goal.returns-clause-again
returns-clause-again c = reads_again signed_codec
