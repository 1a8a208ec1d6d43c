use Rattle.std.proofs.Common.{refl}
use Rattle.small_world.proofs.Computing.{computing_world}
use Rattle.small_world.proofs.worked.lost_boot_worked.Goals as goal

pub returns-clause-texts : goal.returns-clause-texts
unfolding computing_world
returns-clause-texts c = refl

pub returns-clause-rest : goal.returns-clause-rest
unfolding computing_world
returns-clause-rest c = refl
