use Rattle.eim_queue.proofs.Standing.{new_stands}
use Rattle.eim_queue.proofs.queue.Eim.new.Goals as goal

pub returns : goal.returns
returns c = new_stands c.args.id c.args.eid c.new.result c.new-2.result c.new.ensures c.new-2.ensures
