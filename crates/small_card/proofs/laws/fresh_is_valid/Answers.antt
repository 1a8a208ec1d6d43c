use Rattle.small_card.proofs.Fresh.{fresh_valid}
use Rattle.small_card.proofs.laws.fresh_is_valid.Goals as goal

pub returns : goal.returns
returns c = record { valid = fresh_valid }
