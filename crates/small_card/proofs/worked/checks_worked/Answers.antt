use Rattle.std.proofs.Common.{refl}
use Rattle.small_card.proofs.Computing.{computing}
use Rattle.small_card.proofs.worked.checks_worked.Goals as goal

pub returns-clause-unknown : goal.returns-clause-unknown
unfolding computing
returns-clause-unknown c = refl

pub returns-clause-eid : goal.returns-clause-eid
unfolding computing
returns-clause-eid c = refl

pub returns-clause-association : goal.returns-clause-association
unfolding computing
returns-clause-association c = refl

pub returns-clause-replay : goal.returns-clause-replay
unfolding computing
returns-clause-replay c = refl

pub returns-clause-above : goal.returns-clause-above
unfolding computing
returns-clause-above c = refl

pub returns-clause-room : goal.returns-clause-room
unfolding computing
returns-clause-room c = refl

pub returns-clause-free : goal.returns-clause-free
unfolding computing
returns-clause-free c = refl

pub returns-clause-last_number : goal.returns-clause-last_number
unfolding computing
returns-clause-last_number c = refl

pub returns-clause-no_number : goal.returns-clause-no_number
unfolding computing
returns-clause-no_number c = refl
