use Rattle.std.proofs.Common.{refl}
use Rattle.small_world.proofs.Computing.{computing_world}
use Rattle.small_world.proofs.worked.probes_worked.Goals as goal

pub returns-clause-texts : goal.returns-clause-texts
unfolding computing_world
returns-clause-texts c = refl

pub returns-clause-dark : goal.returns-clause-dark
unfolding computing_world
returns-clause-dark c = refl
