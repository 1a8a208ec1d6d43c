use Rattle.small_card.proofs.Prefixes.{first_legal}
use Rattle.small_card.proofs.laws.first_units_legal.Goals as goal

pub returns : goal.returns
returns c = record { legal = first_legal }
