use Rattle.small_card.proofs.Accepting.{legal_once}
use Rattle.small_world.proofs.Reached.{reached_keeps}
use Rattle.small_world.proofs.Running.{run_tried}
use Rattle.small_world.proofs.laws.histories_are_legal.Goals as goal

pub returns-clause-legal : goal.returns-clause-legal
returns-clause-legal c = λ w r. (reached_keeps w r).legal

pub returns-clause-once : goal.returns-clause-once
returns-clause-once c = λ w r. legal_once w.history (reached_keeps w r).legal

pub returns-clause-attempt : goal.returns-clause-attempt
returns-clause-attempt c = λ w r. run_tried w (reached_keeps w r)
