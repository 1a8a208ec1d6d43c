use Rattle.std.proofs.Common.{refl}
use Rattle.small_card.proofs.Computing.{computing}
use Rattle.small_card.proofs.worked.profile_operations_worked.Goals as goal

pub returns-clause-enable_absent : goal.returns-clause-enable_absent
unfolding computing
returns-clause-enable_absent c = refl

pub returns-clause-enable_enabled : goal.returns-clause-enable_enabled
unfolding computing
returns-clause-enable_enabled c = refl

pub returns-clause-enable_done : goal.returns-clause-enable_done
unfolding computing
returns-clause-enable_done c = refl

pub returns-clause-disable_absent : goal.returns-clause-disable_absent
unfolding computing
returns-clause-disable_absent c = refl

pub returns-clause-disable_disabled : goal.returns-clause-disable_disabled
unfolding computing
returns-clause-disable_disabled c = refl

pub returns-clause-disable_done : goal.returns-clause-disable_done
unfolding computing
returns-clause-disable_done c = refl

pub returns-clause-delete_absent : goal.returns-clause-delete_absent
unfolding computing
returns-clause-delete_absent c = refl

pub returns-clause-delete_enabled : goal.returns-clause-delete_enabled
unfolding computing
returns-clause-delete_enabled c = refl

pub returns-clause-delete_armed : goal.returns-clause-delete_armed
unfolding computing
returns-clause-delete_armed c = refl

pub returns-clause-delete_unarmed : goal.returns-clause-delete_unarmed
unfolding computing
returns-clause-delete_unarmed c = refl

pub returns-clause-delete_other : goal.returns-clause-delete_other
unfolding computing
returns-clause-delete_other c = refl

pub returns-clause-list : goal.returns-clause-list
unfolding computing
returns-clause-list c = refl
