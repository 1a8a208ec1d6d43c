use Rattle.std.proofs.Common.{arith}
use Rattle.sgp_values.proofs.Octets.{AllPass-from_bounds}
use Rattle.eim_queue.proofs.queue.told.Goals as goal

pub returns : goal.returns
returns c = AllPass-from_bounds _ (λ i. omega (arith, c.type_inv.octets i))
