use Rattle.small_card.proofs.Validity.{legal_valid}
use Rattle.small_card.proofs.laws.stays_valid.Goals as goal

pub returns : goal.returns
returns c = record { valid = legal_valid }
