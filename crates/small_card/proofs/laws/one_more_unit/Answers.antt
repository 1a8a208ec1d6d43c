use Rattle.small_card.proofs.Looking.{full_more}
use Rattle.small_card.proofs.laws.one_more_unit.Goals as goal

pub returns : goal.returns
returns c = record { step = full_more }
