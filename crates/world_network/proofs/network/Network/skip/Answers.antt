use Rattle.std.proofs.Common.{sym, subst}
use Rattle.esipa_codec.specs.Eims.{skipped}
use Rattle.small_world.specs.Lines.{acted}
use Rattle.world_network.specs.Networks.{Parts, IsNetwork, parts_of}
use Rattle.world_network.proofs.Places.{skipped_id}
use Rattle.world_network.proofs.Standing.{changed_network}
use Rattle.world_network.proofs.network.Network.skip.Goals as goal

pub returns-clause-stands : goal.returns-clause-stands
unfolding acted
returns-clause-stands c = λ w h.
    let k : IsNetwork (parts_of c.self.inside) w = subst (λ (p : Parts). IsNetwork p w) (sym c.self.view_is) h in
    changed_network (parts_of c.self.inside) w c.skip.new.managers.items c.args.id.now skipped k skipped_id (c.skip.ensures.stands w.eims k.eims k.apart)
