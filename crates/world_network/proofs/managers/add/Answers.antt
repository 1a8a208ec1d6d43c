use Rattle.std.proofs.Common.{refl}
use Rattle.esipa_codec.specs.Eims.{new_eim}
use Rattle.world_network.proofs.Places.{on_then, added}
use Rattle.world_network.proofs.managers.add.Goals as goal

pub returns-clause-ok : goal.returns-clause-ok
returns-clause-ok c = λ es h.
    on_then c.push.result _ _
    (λ is. added c.args.managers.now.items c.push.new.managers.items es _ (new_eim c.args.id c.args.eid) is (record { id_is = refl; queue_is = c.new.ensures }) h)
    c.push.ensures.ok
