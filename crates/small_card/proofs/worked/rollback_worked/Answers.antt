use Rattle.std.proofs.Common.{refl}
use Rattle.small_card.proofs.Computing.{computing}
use Rattle.small_card.proofs.worked.rollback_worked.Goals as goal

pub returns-clause-armed : goal.returns-clause-armed
unfolding computing
returns-clause-armed c = refl

pub returns-clause-rolled : goal.returns-clause-rolled
unfolding computing
returns-clause-rolled c = refl

pub returns-clause-discarded : goal.returns-clause-discarded
unfolding computing
returns-clause-discarded c = refl

pub returns-clause-protected : goal.returns-clause-protected
unfolding computing
returns-clause-protected c = refl

pub returns-clause-once : goal.returns-clause-once
unfolding computing
returns-clause-once c = refl

pub returns-clause-later : goal.returns-clause-later
unfolding computing
returns-clause-later c = refl

pub returns-clause-later_eims : goal.returns-clause-later_eims
unfolding computing
returns-clause-later_eims c = refl

pub returns-clause-removed : goal.returns-clause-removed
unfolding computing
returns-clause-removed c = refl

pub returns-clause-other_removed : goal.returns-clause-other_removed
unfolding computing
returns-clause-other_removed c = refl

pub returns-clause-renumbered : goal.returns-clause-renumbered
unfolding computing
returns-clause-renumbered c = refl

pub returns-clause-emptied : goal.returns-clause-emptied
unfolding computing
returns-clause-emptied c = refl

pub returns-clause-last : goal.returns-clause-last
unfolding computing
returns-clause-last c = refl

pub returns-clause-marked_last : goal.returns-clause-marked_last
unfolding computing
returns-clause-marked_last c = refl

pub returns-clause-start_armed : goal.returns-clause-start_armed
unfolding computing
returns-clause-start_armed c = refl

pub returns-clause-start_superseded : goal.returns-clause-start_superseded
unfolding computing
returns-clause-start_superseded c = refl

pub returns-clause-start_renumbered : goal.returns-clause-start_renumbered
unfolding computing
returns-clause-start_renumbered c = refl
