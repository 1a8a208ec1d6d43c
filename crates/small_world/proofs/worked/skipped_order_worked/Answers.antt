use Rattle.std.proofs.Common.{refl}
use Rattle.small_world.proofs.Computing.{computing_world}
use Rattle.small_world.proofs.worked.skipped_order_worked.Goals as goal

pub returns : goal.returns
unfolding computing_world
returns c = record { texts = refl }
