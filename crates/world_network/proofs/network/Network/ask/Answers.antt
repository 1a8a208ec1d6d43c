use Rattle.std.proofs.Common.{◌<◌, ℕ, sym, subst, List}
use Rattle.small_card.specs.Lists.{Every}
use Rattle.esipa_codec.specs.Assistant.{poll}
use Rattle.esipa_codec.specs.declared.ends.Act.{Act}
use Rattle.small_world.specs.Acting.{posts_of}
use Rattle.small_world.specs.Octets.{octets_sent, most_octets_sent}
use Rattle.std.specs.Prelude.{OnOk}
use Rattle.world_network.specs.Mails.{IsPost}
use Rattle.world_network.specs.Networks.{Parts, IsNetwork, parts_of, acting}
use Rattle.world_network.proofs.Places.{on_then}
use Rattle.world_network.proofs.Standing.{acted_network, acted_limit, poll_fits}
use Rattle.world_network.proofs.network.Network.ask.Goals as goal

pub send_act-requires-clause-range : goal.send_act-requires-clause-range
send_act-requires-clause-range c = subst (λ (a : Act). Every IsPost (posts_of a)) (sym (c.in-Ok.ensures.act c.self.invariant.some.0)) (poll_fits c.self.invariant.some.0 c.args.id c.self.inside.eid c.self.invariant.eid)

pub returns-in-Ok-clause-stands : goal.returns-in-Ok-clause-stands
returns-in-Ok-clause-stands c = λ w h.
    let k : IsNetwork (parts_of c.self.inside) w = subst (λ (p : Parts). IsNetwork p w) (sym c.self.view_is) h in
    let is = c.in-Ok.ensures.act w.assistant in
    let fits = subst (λ (a : Act). Every IsPost (posts_of a)) (sym is) (poll_fits w.assistant c.args.id c.self.inside.eid c.self.invariant.eid) in
    subst (λ (eid : List ℕ). OnOk c.send_act.result (IsNetwork (record { eid = c.self.inside.eid; ipa = c.self.inside.ipa; managers = c.self.inside.managers.items; mail = c.send_act.new.self }) (acting (poll c.args.id eid) w))) k.eid
    (on_then c.send_act.result _ _ (acted_network (parts_of c.self.inside) w c.self.inside.ipa (poll c.args.id c.self.inside.eid) c.in-Ok.act c.send_act.new.self k (c.on_poll.ensures.stays w.assistant k.ipa) is fits c.send_act.ensures.few) c.send_act.ensures.ok)

pub returns-in-Ok-clause-limit : goal.returns-in-Ok-clause-limit
returns-in-Ok-clause-limit c = λ w h e.
    let k : IsNetwork (parts_of c.self.inside) w = subst (λ (p : Parts). IsNetwork p w) (sym c.self.view_is) h in
    subst (λ (eid : List ℕ). most_octets_sent < octets_sent (acting (poll c.args.id eid) w)) k.eid
    (acted_limit (parts_of c.self.inside) w (poll c.args.id c.self.inside.eid) c.in-Ok.act k (c.in-Ok.ensures.act w.assistant) (c.send_act.ensures.limit e))
