use Rattle.std.proofs.Common.{sym, subst}
use Rattle.esipa_codec.specs.Eims.{ordered}
use Rattle.small_world.specs.Lines.{acted}
use Rattle.world_network.specs.Networks.{Parts, IsNetwork, parts_of}
use Rattle.world_network.proofs.Places.{ordered_id}
use Rattle.world_network.proofs.Standing.{changed_network, booked_then}
use Rattle.world_network.proofs.network.Network.order.Goals as goal

pub returns-clause-stands : goal.returns-clause-stands
unfolding acted
returns-clause-stands c = λ w h.
    let k : IsNetwork (parts_of c.self.inside) w = subst (λ (p : Parts). IsNetwork p w) (sym c.self.view_is) h in
    booked_then c.order.result _ _ (changed_network (parts_of c.self.inside) w c.order.new.managers.items c.args.id.now (ordered c.args.body) k (ordered_id c.args.body)) (c.order.ensures.stands w.eims k.eims k.apart)
