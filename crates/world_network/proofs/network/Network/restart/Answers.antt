use Rattle.std.proofs.Common.{sym, subst}
use Rattle.small_world.specs.Lines.{acted}
use Rattle.world_network.specs.Networks.{Parts, IsNetwork, parts_of}
use Rattle.world_network.proofs.Standing.{restarted_network}
use Rattle.world_network.proofs.network.Network.restart.Goals as goal

pub returns : goal.returns
unfolding acted
returns c = λ w h.
    let k : IsNetwork (parts_of c.self.inside) w = subst (λ (p : Parts). IsNetwork p w) (sym c.self.view_is) h in
    restarted_network (parts_of c.self.inside) w c.restart.new.self k (c.restart.ensures w.assistant k.ipa)
