use Rattle.small_card.proofs.Happening.{all_kinds_legal}
use Rattle.small_card.proofs.worked.history_worked.Goals as goal

pub returns : goal.returns
returns c = record { legal = all_kinds_legal }
