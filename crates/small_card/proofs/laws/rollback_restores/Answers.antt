use Rattle.small_card.proofs.Restoring.{restored}
use Rattle.small_card.proofs.laws.rollback_restores.Goals as goal

pub returns : goal.returns
returns c = record { alone = restored }
