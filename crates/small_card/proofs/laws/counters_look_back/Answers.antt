use Rattle.small_card.proofs.Counting.{legal_counted}
use Rattle.small_card.proofs.laws.counters_look_back.Goals as goal

pub returns : goal.returns
returns c = record { counted = legal_counted }
