use Rattle.eim_queue.proofs.Following.{no_orders}
use Rattle.eim_queue.proofs.orders.Orders.new.Goals as goal

pub invariant_of-result : goal.invariant_of-result
invariant_of-result c = no_orders c.new.result.items c.new-2.result c.new-3.result c.new.ensures.items c.new-3.ensures.empty
