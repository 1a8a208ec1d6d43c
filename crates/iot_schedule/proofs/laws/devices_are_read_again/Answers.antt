use Rattle.iot_schedule.proofs.Relining.{device_again}
use Rattle.iot_schedule.proofs.FittingLines.{device_fits_in}
use Rattle.iot_schedule.proofs.laws.devices_are_read_again.Goals as goal

pub returns-clause-again : goal.returns-clause-again
returns-clause-again c = device_again

pub returns-clause-range : goal.returns-clause-range
returns-clause-range c = device_fits_in
