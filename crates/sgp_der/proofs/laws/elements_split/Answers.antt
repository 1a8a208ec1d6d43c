use Rattle.sgp_der.proofs.Elements.{element_split}
use Rattle.sgp_der.proofs.laws.elements_split.Goals as goal

pub returns : goal.returns
returns c = element_split
