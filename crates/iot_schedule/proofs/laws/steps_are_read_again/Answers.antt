use Rattle.iot_schedule.proofs.Relining.{step_again}
use Rattle.iot_schedule.proofs.FittingLines.{step_fits}
use Rattle.iot_schedule.proofs.laws.steps_are_read_again.Goals as goal

pub returns-clause-again : goal.returns-clause-again
returns-clause-again c = step_again

pub returns-clause-range : goal.returns-clause-range
returns-clause-range c = step_fits
