use Rattle.small_world.proofs.Planning.{step_ends}
use Rattle.small_world.proofs.Reaching.{command_reaches, nothing_reaches}
use Rattle.small_world.proofs.laws.commands_reach_the_card.Goals as goal

pub returns-clause-command : goal.returns-clause-command
returns-clause-command c = command_reaches

pub returns-clause-others : goal.returns-clause-others
returns-clause-others c = nothing_reaches

pub returns-clause-plan : goal.returns-clause-plan
returns-clause-plan c = step_ends
