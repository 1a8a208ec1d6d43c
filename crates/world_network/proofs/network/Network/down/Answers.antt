use Rattle.std.proofs.Common.{◌≡◌, [], ◌∙◌, ap, sym, subst, Option, Some}
use Rattle.esipa_codec.specs.Assistant.{message}
use Rattle.esipa_codec.specs.declared.ends.Act.{Act}
use Rattle.std.specs.Prelude.{IfSome, option_copied}
use Rattle.small_card.specs.Ranges.{IsCommand}
use Rattle.small_world.specs.Acting.{command_of}
use Rattle.small_world.specs.Network.{picked}
use Rattle.small_world.specs.declared.reply.Reply.{Reply}
use Rattle.world_network.specs.Networks.{Parts, IsNetwork, parts_of, down_act, hearing_from}
use Rattle.world_network.proofs.Standing.{heard_network, named_reply, unnamed_reply, brought_fits}
use Rattle.world_network.proofs.network.Network.down.Goals as goal

pub returns-in-None-clause-act : goal.returns-in-None-clause-act
unfolding down_act
returns-in-None-clause-act c = λ w h.
    let k : IsNetwork (parts_of c.self.inside) w = subst (λ (p : Parts). IsNetwork p w) (sym c.self.view_is) h in
    ap (λ (o : Option Reply). down_act w c.args.good o) (sym (unnamed_reply c.self.inside.mail w.to_eims w.to_ipa c.args.pick k.mail (ap option_copied (sym c.in-None.is) ∙ c.named.ensures ∙ ap (picked c.args.pick) c.as_slice.ensures)))

pub returns-in-None-clause-stands : goal.returns-in-None-clause-stands
unfolding hearing_from
returns-in-None-clause-stands c = λ w h.
    let k : IsNetwork (parts_of c.self.inside) w = subst (λ (p : Parts). IsNetwork p w) (sym c.self.view_is) h in
    subst (λ (o : Option Reply). IsNetwork c.args.self.now (hearing_from c.args.good o w)) (sym (unnamed_reply c.self.inside.mail w.to_eims w.to_ipa c.args.pick k.mail (ap option_copied (sym c.in-None.is) ∙ c.named.ensures ∙ ap (picked c.args.pick) c.as_slice.ensures))) h

pub returns-in_ok-message-in-Some-clause-act : goal.returns-in_ok-message-in-Some-clause-act
unfolding down_act
returns-in_ok-message-in-Some-clause-act c = λ w h.
    let k : IsNetwork (parts_of c.self.inside) w = subst (λ (p : Parts). IsNetwork p w) (sym c.self.view_is) h in
    let q : picked c.args.pick w.to_ipa ≡ Some (record { from = c.in-Some.letter.now.peer; message = c.in_ok-message-in-Some.message }) = named_reply c.self.inside.mail w.to_eims w.to_ipa c.args.pick c.in-Some.letter.now c.in_ok-message-in-Some.message k.mail (ap option_copied (sym c.in-Some.is) ∙ c.named.ensures ∙ ap (picked c.args.pick) c.as_slice.ensures) (λ y fits e. c.in_ok-message-in-Some.ensures.again y fits (c.as_slice-in-Some.ensures ∙ e)) in
    subst (λ (o : Option Reply). Some c.on_message.result ≡ down_act w c.args.good o) (sym q) (ap (λ (a : Act). Some a) (c.on_message.ensures.act w.assistant))

pub returns-in_ok-message-in-Some-clause-stands : goal.returns-in_ok-message-in-Some-clause-stands
unfolding hearing_from
returns-in_ok-message-in-Some-clause-stands c = λ w h.
    let k : IsNetwork (parts_of c.self.inside) w = subst (λ (p : Parts). IsNetwork p w) (sym c.self.view_is) h in
    let q : picked c.args.pick w.to_ipa ≡ Some (record { from = c.in-Some.letter.now.peer; message = c.in_ok-message-in-Some.message }) = named_reply c.self.inside.mail w.to_eims w.to_ipa c.args.pick c.in-Some.letter.now c.in_ok-message-in-Some.message k.mail (ap option_copied (sym c.in-Some.is) ∙ c.named.ensures ∙ ap (picked c.args.pick) c.as_slice.ensures) (λ y fits e. c.in_ok-message-in-Some.ensures.again y fits (c.as_slice-in-Some.ensures ∙ e)) in
    let n : Parts = parts_of c.self.inside in
    subst (λ (o : Option Reply). IsNetwork (record n { ipa = c.on_message.new.self }) (hearing_from c.args.good o w)) (sym q)
    (heard_network n w c.on_message.new.self (message c.in-Some.letter.now.peer c.in_ok-message-in-Some.message c.args.good) k (c.on_message.ensures.stands w.assistant k.ipa))

pub returns-in_ok-message-in-Some-clause-range : goal.returns-in_ok-message-in-Some-clause-range
returns-in_ok-message-in-Some-clause-range c =
    subst (λ (a : Act). IfSome (command_of a) IsCommand) (sym (c.on_message.ensures.act [])) (brought_fits c.in-Some.letter.now.peer c.in_ok-message-in-Some.message c.args.good c.in_ok-message-in-Some.ensures.range)
