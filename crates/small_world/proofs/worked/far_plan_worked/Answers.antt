use Rattle.chip_port.specs.declared.chip.Tear.TheVariants as tear
use Rattle.iot_schedule.specs.declared.types.Line.TheVariants as line
use Rattle.small_world.specs.Runs.{kept_on}
use Rattle.small_world.specs.Examples.{dark_device, ready, ordered_down, enable_home, goes_down}
use Rattle.small_world.proofs.Playing.{may_play, plays}
use Rattle.std.proofs.Common.{refl, ◌∷◌, ◌++◌, []}
use Rattle.small_world.proofs.Computing.{computing_world}
use Rattle.small_world.proofs.worked.far_plan_worked.Goals as goal

pub returns-clause-may : goal.returns-clause-may
unfolding computing_world may_play
returns-clause-may c = plays (ready dark_device []) (ordered_down enable_home ++ kept_on (line.Cut 10000 tear.New) ∷ goes_down 0 ∷ goes_down 0 ∷ []) refl

pub returns-clause-texts : goal.returns-clause-texts
unfolding computing_world
returns-clause-texts c = refl
