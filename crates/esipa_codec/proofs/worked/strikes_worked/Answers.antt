use Rattle.std.proofs.Common.{refl}
use Rattle.esipa_codec.proofs.Computing.{computing_acts}
use Rattle.esipa_codec.proofs.worked.strikes_worked.Goals as goal

pub returns-clause-two : goal.returns-clause-two
unfolding computing_acts
returns-clause-two c = refl

pub returns-clause-third : goal.returns-clause-third
unfolding computing_acts
returns-clause-third c = refl

pub returns-clause-anew : goal.returns-clause-anew
unfolding computing_acts
returns-clause-anew c = refl

pub returns-clause-passed : goal.returns-clause-passed
unfolding computing_acts
returns-clause-passed c = refl

pub returns-clause-loaded : goal.returns-clause-loaded
unfolding computing_acts
returns-clause-loaded c = refl

pub returns-clause-restarted : goal.returns-clause-restarted
unfolding computing_acts
returns-clause-restarted c = refl

pub returns-clause-asks : goal.returns-clause-asks
unfolding computing_acts
returns-clause-asks c = refl

pub returns-clause-answers : goal.returns-clause-answers
unfolding computing_acts
returns-clause-answers c = refl
