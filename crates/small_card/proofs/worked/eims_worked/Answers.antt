use Rattle.std.proofs.Common.{refl}
use Rattle.small_card.proofs.Computing.{computing}
use Rattle.small_card.proofs.worked.eims_worked.Goals as goal

pub returns-clause-none_left : goal.returns-clause-none_left
unfolding computing
returns-clause-none_left c = refl

pub returns-clause-joined_again : goal.returns-clause-joined_again
unfolding computing
returns-clause-joined_again c = refl

pub returns-clause-numbered : goal.returns-clause-numbered
unfolding computing
returns-clause-numbered c = refl

pub returns-clause-full : goal.returns-clause-full
unfolding computing
returns-clause-full c = refl

pub returns-clause-new_number : goal.returns-clause-new_number
unfolding computing
returns-clause-new_number c = refl

pub returns-clause-counter_first : goal.returns-clause-counter_first
unfolding computing
returns-clause-counter_first c = refl

pub returns-clause-rejoined : goal.returns-clause-rejoined
unfolding computing
returns-clause-rejoined c = refl
