use Rattle.sgp_fields.proofs.Clauses.{reads_spelled, reads_again}
use Rattle.package_codec.proofs.Bodies.{body_codec}
use Rattle.package_codec.proofs.laws.bodies_are_read_back.Goals as goal

pub returns-clause-taken : goal.returns-clause-taken
returns-clause-taken c = reads_spelled body_codec

pub returns-clause-again : goal.returns-clause-again
returns-clause-again c = reads_again body_codec
