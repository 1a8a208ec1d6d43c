use Rattle.world_network.proofs.Standing.{new_network}
use Rattle.world_network.proofs.network.Network.new.Goals as goal

pub returns : goal.returns
returns c = λ d handed_in e. new_network d handed_in c.args.eid c.new.result c.new-2.result.items c.new-3.result e c.new.ensures c.new-2.ensures.items c.new-3.ensures
