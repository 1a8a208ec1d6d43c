use Rattle.std.proofs.Common.{refl}
use Rattle.small_card.proofs.Computing.{computing}
use Rattle.small_card.proofs.worked.counters_worked.Goals as goal

pub returns-clause-start : goal.returns-clause-start
unfolding computing
returns-clause-start c = refl

pub returns-clause-loads : goal.returns-clause-loads
unfolding computing
returns-clause-loads c = refl

pub returns-clause-other : goal.returns-clause-other
unfolding computing
returns-clause-other c = refl
