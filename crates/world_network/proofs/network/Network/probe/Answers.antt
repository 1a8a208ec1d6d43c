use Rattle.std.proofs.Common.{sym, subst}
use Rattle.esipa_codec.specs.Assistant.{probe}
use Rattle.world_network.specs.Networks.{Parts, IsNetwork, parts_of}
use Rattle.world_network.proofs.Standing.{heard_network, few_strikes}
use Rattle.world_network.proofs.network.Network.probe.Goals as goal

pub on_probe-requires : goal.on_probe-requires
on_probe-requires c = few_strikes c.self.inside.ipa c.self.invariant.some.0 c.self.invariant.some.1

pub returns-clause-stands : goal.returns-clause-stands
returns-clause-stands c = λ w h.
    let k : IsNetwork (parts_of c.self.inside) w = subst (λ (p : Parts). IsNetwork p w) (sym c.self.view_is) h in
    heard_network (parts_of c.self.inside) w c.on_probe.new.self (probe c.args.passed) k (c.on_probe.ensures.stands w.assistant k.ipa)
