use Rattle.sgp_der.proofs.Elements.{element_again}
use Rattle.sgp_der.proofs.Fields.{field_again, only_again}
use Rattle.sgp_der.proofs.laws.elements_read_again.Goals as goal

pub returns : goal.returns
returns c = record { next = element_again; field = field_again; only = only_again }
