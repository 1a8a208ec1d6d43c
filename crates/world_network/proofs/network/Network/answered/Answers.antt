use Rattle.std.proofs.Common.{sym, subst}
use Rattle.small_card.specs.Lists.{Every}
use Rattle.esipa_codec.specs.Assistant.{answered}
use Rattle.esipa_codec.specs.declared.ends.Act.{Act}
use Rattle.small_world.specs.Acting.{posts_of, told_answer}
use Rattle.world_network.specs.Mails.{IsPost}
use Rattle.world_network.specs.Networks.{Parts, IsNetwork, parts_of}
use Rattle.world_network.proofs.Places.{on_then}
use Rattle.world_network.proofs.Standing.{acted_network, acted_limit, answered_fits}
use Rattle.world_network.proofs.network.Network.answered.Goals as goal

pub send_act-requires-clause-range : goal.send_act-requires-clause-range
send_act-requires-clause-range c = subst (λ (a : Act). Every IsPost (posts_of a)) (sym (c.in-Ok.ensures.act c.self.invariant.some.0 c.self.invariant.some.1)) (answered_fits c.self.invariant.some.0 c.args.answer c.requires)

pub returns-in-Ok-clause-stands : goal.returns-in-Ok-clause-stands
unfolding told_answer
returns-in-Ok-clause-stands c = λ w h.
    let k : IsNetwork (parts_of c.self.inside) w = subst (λ (p : Parts). IsNetwork p w) (sym c.self.view_is) h in
    let is = c.in-Ok.ensures.act w.assistant k.ipa in
    on_then c.send_act.result _ _ (acted_network (parts_of c.self.inside) w c.on_answer.new.self (answered c.args.answer) c.in-Ok.act c.send_act.new.self k (c.in-Ok.ensures.stands w.assistant k.ipa) is (subst (λ (a : Act). Every IsPost (posts_of a)) (sym is) (answered_fits w.assistant c.args.answer c.requires)) c.send_act.ensures.few) c.send_act.ensures.ok

pub returns-in-Ok-clause-limit : goal.returns-in-Ok-clause-limit
unfolding told_answer
returns-in-Ok-clause-limit c = λ w h e.
    let k : IsNetwork (parts_of c.self.inside) w = subst (λ (p : Parts). IsNetwork p w) (sym c.self.view_is) h in
    acted_limit (parts_of c.self.inside) w (answered c.args.answer) c.in-Ok.act k (c.in-Ok.ensures.act w.assistant k.ipa) (c.send_act.ensures.limit e)
