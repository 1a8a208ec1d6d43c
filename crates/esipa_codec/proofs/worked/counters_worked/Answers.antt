use Rattle.std.proofs.Common.{refl}
use Rattle.esipa_codec.proofs.Computing.{computing_acts}
use Rattle.esipa_codec.proofs.worked.counters_worked.Goals as goal

pub returns-clause-unbound : goal.returns-clause-unbound
unfolding computing_acts
returns-clause-unbound c = refl

pub returns-clause-first : goal.returns-clause-first
unfolding computing_acts
returns-clause-first c = refl

pub returns-clause-second : goal.returns-clause-second
unfolding computing_acts
returns-clause-second c = refl

pub returns-clause-last : goal.returns-clause-last
unfolding computing_acts
returns-clause-last c = refl

pub returns-clause-spent : goal.returns-clause-spent
unfolding computing_acts
returns-clause-spent c = refl

pub returns-clause-skips : goal.returns-clause-skips
unfolding computing_acts
returns-clause-skips c = refl

pub returns-clause-skips_on : goal.returns-clause-skips_on
unfolding computing_acts
returns-clause-skips_on c = refl

pub returns-clause-none_waits : goal.returns-clause-none_waits
unfolding computing_acts
returns-clause-none_waits c = refl

pub returns-clause-low : goal.returns-clause-low
unfolding computing_acts
returns-clause-low c = refl

pub returns-clause-other : goal.returns-clause-other
unfolding computing_acts
returns-clause-other c = refl
