use Rattle.small_world.proofs.Ranging.{ups_fit, downs_fit, command_fits}
use Rattle.small_world.proofs.Reached.{reached_keeps}
use Rattle.small_world.proofs.laws.messages_are_in_range.Goals as goal

pub returns-clause-up : goal.returns-clause-up
returns-clause-up c = λ w r. ups_fit w (reached_keeps w r)

pub returns-clause-down : goal.returns-clause-down
returns-clause-down c = λ w r. downs_fit w (reached_keeps w r)

pub returns-clause-commands : goal.returns-clause-commands
returns-clause-commands c = λ w l x r k e. command_fits w l x (reached_keeps w r) k e
