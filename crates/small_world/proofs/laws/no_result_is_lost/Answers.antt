use Rattle.small_world.proofs.Reached.{reached_keeps}
use Rattle.small_world.proofs.Running.{run_lossless, run_made}
use Rattle.small_world.proofs.laws.no_result_is_lost.Goals as goal

pub returns-clause-lost : goal.returns-clause-lost
returns-clause-lost c = λ w r. run_lossless w (reached_keeps w r)

pub returns-clause-made : goal.returns-clause-made
returns-clause-made c = λ w r. run_made w (reached_keeps w r)

pub returns-clause-apart : goal.returns-clause-apart
returns-clause-apart c = λ w r. (reached_keeps w r).apart
