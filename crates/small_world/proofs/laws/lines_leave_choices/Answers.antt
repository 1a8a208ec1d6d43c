use Rattle.small_world.proofs.Leaving.{some_turn, no_choice}
use Rattle.small_world.proofs.Losing.{lost_says}
use Rattle.small_world.proofs.laws.lines_leave_choices.Goals as goal

pub returns-clause-some : goal.returns-clause-some
returns-clause-some c = some_turn

pub returns-clause-none : goal.returns-clause-none
returns-clause-none c = no_choice

pub returns-clause-lost : goal.returns-clause-lost
returns-clause-lost c = lost_says

pub returns-clause-taken : goal.returns-clause-taken
returns-clause-taken c = λ w t m e. ((m.taken e).boot, (m.taken e).dark, (m.taken e).answered)
