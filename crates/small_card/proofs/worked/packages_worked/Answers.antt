use Rattle.std.proofs.Common.{refl}
use Rattle.small_card.proofs.Computing.{computing}
use Rattle.small_card.proofs.worked.packages_worked.Goals as goal

pub returns-clause-stopped : goal.returns-clause-stopped
unfolding computing
returns-clause-stopped c = refl

pub returns-clause-swapped : goal.returns-clause-swapped
unfolding computing
returns-clause-swapped c = refl

pub returns-clause-protected : goal.returns-clause-protected
unfolding computing
returns-clause-protected c = refl

pub returns-clause-discarded : goal.returns-clause-discarded
unfolding computing
returns-clause-discarded c = refl

pub returns-clause-unflagged : goal.returns-clause-unflagged
unfolding computing
returns-clause-unflagged c = refl

pub returns-clause-returned : goal.returns-clause-returned
unfolding computing
returns-clause-returned c = refl

pub returns-clause-stays_armed : goal.returns-clause-stays_armed
unfolding computing
returns-clause-stays_armed c = refl

pub returns-clause-none_before : goal.returns-clause-none_before
unfolding computing
returns-clause-none_before c = refl

pub returns-clause-goes_on : goal.returns-clause-goes_on
unfolding computing
returns-clause-goes_on c = refl

pub returns-clause-shown : goal.returns-clause-shown
unfolding computing
returns-clause-shown c = refl

pub returns-clause-done : goal.returns-clause-done
unfolding computing
returns-clause-done c = refl

pub returns-clause-undone : goal.returns-clause-undone
unfolding computing
returns-clause-undone c = refl

pub returns-clause-stopped_eims : goal.returns-clause-stopped_eims
unfolding computing
returns-clause-stopped_eims c = refl
