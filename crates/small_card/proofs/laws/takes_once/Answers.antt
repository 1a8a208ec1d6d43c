use Rattle.small_card.proofs.Accepting.{legal_once}
use Rattle.small_card.proofs.laws.takes_once.Goals as goal

pub returns : goal.returns
returns c = record { once = legal_once }
