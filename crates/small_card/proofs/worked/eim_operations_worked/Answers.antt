use Rattle.std.proofs.Common.{refl}
use Rattle.small_card.proofs.Computing.{computing}
use Rattle.small_card.proofs.worked.eim_operations_worked.Goals as goal

pub returns-clause-add_there : goal.returns-clause-add_there
unfolding computing
returns-clause-add_there c = refl

pub returns-clause-add_full : goal.returns-clause-add_full
unfolding computing
returns-clause-add_full c = refl

pub returns-clause-add_spent : goal.returns-clause-add_spent
unfolding computing
returns-clause-add_spent c = refl

pub returns-clause-add_last : goal.returns-clause-add_last
unfolding computing
returns-clause-add_last c = refl

pub returns-clause-add_done : goal.returns-clause-add_done
unfolding computing
returns-clause-add_done c = refl

pub returns-clause-update_absent : goal.returns-clause-update_absent
unfolding computing
returns-clause-update_absent c = refl

pub returns-clause-update_address : goal.returns-clause-update_address
unfolding computing
returns-clause-update_address c = refl

pub returns-clause-update_key : goal.returns-clause-update_key
unfolding computing
returns-clause-update_key c = refl

pub returns-clause-delete_absent : goal.returns-clause-delete_absent
unfolding computing
returns-clause-delete_absent c = refl

pub returns-clause-delete_done : goal.returns-clause-delete_done
unfolding computing
returns-clause-delete_done c = refl

pub returns-clause-delete_last : goal.returns-clause-delete_last
unfolding computing
returns-clause-delete_last c = refl

pub returns-clause-list : goal.returns-clause-list
unfolding computing
returns-clause-list c = refl
