use Rattle.std.proofs.Common.{subst}
use Rattle.std.specs.List.{AllPass}
use Rattle.sgp_values.specs.Ranges.{is_octet}
use Rattle.eim_queue.proofs.Sending.{package_sendable}
use Rattle.eim_queue.proofs.queue.carried.Goals as goal

pub returns-clause-range : goal.returns-clause-range
returns-clause-range c = λ few. package_sendable c.args.bytes few (subst (AllPass is_octet) c.as_slice.ensures c.told.ensures)
