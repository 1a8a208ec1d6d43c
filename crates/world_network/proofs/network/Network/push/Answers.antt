use Rattle.std.proofs.Common.{sym, subst}
use Rattle.esipa_codec.specs.Assistant.{push}
use Rattle.small_world.specs.Acting.{hearing}
use Rattle.world_network.specs.Networks.{Parts, IsNetwork, parts_of}
use Rattle.world_network.proofs.Standing.{heard_network}
use Rattle.world_network.proofs.network.Network.push.Goals as goal

pub returns-clause-stands : goal.returns-clause-stands
returns-clause-stands c = λ w h.
    let k : IsNetwork (parts_of c.self.inside) w = subst (λ (p : Parts). IsNetwork p w) (sym c.self.view_is) h in
    subst (λ (p : Parts). IsNetwork p (hearing push w)) c.self.view_is (heard_network (parts_of c.self.inside) w c.self.inside.ipa push k (c.on_push.ensures.stays w.assistant k.ipa))
