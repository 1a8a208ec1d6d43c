use Rattle.sgp_fields.proofs.Elements.{one_spelling}
use Rattle.package_codec.proofs.Bodies.{body_listed}
use Rattle.package_codec.proofs.laws.bodies_have_one_spelling.Goals as goal

pub returns : goal.returns
returns c = one_spelling body_listed
