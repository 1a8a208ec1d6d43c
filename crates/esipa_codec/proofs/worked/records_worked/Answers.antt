use Rattle.std.proofs.Common.{refl}
use Rattle.esipa_codec.proofs.Computing.{computing_acts}
use Rattle.esipa_codec.proofs.worked.records_worked.Goals as goal

pub returns-clause-rolled : goal.returns-clause-rolled
unfolding computing_acts
returns-clause-rolled c = refl

pub returns-clause-late : goal.returns-clause-late
unfolding computing_acts
returns-clause-late c = refl

pub returns-clause-record : goal.returns-clause-record
unfolding computing_acts
returns-clause-record c = refl

pub returns-clause-equal : goal.returns-clause-equal
unfolding computing_acts
returns-clause-equal c = refl

pub returns-clause-in_order : goal.returns-clause-in_order
unfolding computing_acts
returns-clause-in_order c = refl
