use Rattle.small_world.proofs.Reached.{run_begins, run_goes_on}
use Rattle.small_world.proofs.laws.runs_go_on.Goals as goal

pub returns-clause-begins : goal.returns-clause-begins
returns-clause-begins c = run_begins

pub returns-clause-goes_on : goal.returns-clause-goes_on
returns-clause-goes_on c = run_goes_on
