use Rattle.iot_schedule.specs.declared.types.Line.TheVariants as line
use Rattle.small_world.specs.Runs.{kept_on}
use Rattle.small_world.specs.Examples.{dark_device, ready, taking_boot, goes_down, torn_load}
use Rattle.small_world.proofs.Playing.{may_play, plays}
use Rattle.std.proofs.Common.{refl, ◌∷◌, ◌++◌, []}
use Rattle.small_world.proofs.Computing.{computing_world}
use Rattle.small_world.proofs.worked.torn_load_worked.Goals as goal

pub returns-clause-may : goal.returns-clause-may
unfolding computing_world may_play
returns-clause-may c = plays (ready dark_device []) (torn_load ++ kept_on line.Boot ∷ goes_down 0 ∷ []) refl

pub returns-clause-texts : goal.returns-clause-texts
unfolding computing_world
returns-clause-texts c = refl

pub returns-clause-may_take : goal.returns-clause-may_take
unfolding computing_world may_play
returns-clause-may_take c = plays (ready dark_device []) (torn_load ++ taking_boot ∷ goes_down 0 ∷ []) refl

pub returns-clause-taken : goal.returns-clause-taken
unfolding computing_world
returns-clause-taken c = refl

pub returns-clause-unsent : goal.returns-clause-unsent
unfolding computing_world
returns-clause-unsent c = refl
