use Rattle.std.proofs.Common.{◌≡◌, ◌<◌, ◌∙◌, ap, sym, subst, Option, Some}
use Rattle.esipa_codec.specs.Assistant.{message}
use Rattle.small_world.specs.Lines.{acted}
use Rattle.small_world.specs.Octets.{octets_sent, most_octets_sent}
use Rattle.std.specs.Prelude.{IfOk, OnOk, option_copied}
use Rattle.esipa_codec.specs.declared.messages.Post.{Post}
use Rattle.small_world.specs.Network.{gone_up, picked}
use Rattle.world_network.specs.Networks.{Parts, IsNetwork, parts_of, heard_of}
use Rattle.world_network.proofs.Standing.{named_post, unnamed_post}
use Rattle.world_network.proofs.network.Network.up.Goals as goal

pub returns-in-None-clause-end : goal.returns-in-None-clause-end
unfolding heard_of
returns-in-None-clause-end c = λ w h.
    let k : IsNetwork (parts_of c.self.inside) w = subst (λ (p : Parts). IsNetwork p w) (sym c.self.view_is) h in
    ap (λ (o : Option Post). heard_of o w.eims) (sym (unnamed_post c.self.inside.mail w.to_eims w.to_ipa c.args.pick k.mail (ap option_copied (sym c.in-None.is) ∙ c.named.ensures ∙ ap (picked c.args.pick) c.as_slice.ensures)))

pub returns-in-None-clause-stands : goal.returns-in-None-clause-stands
unfolding acted gone_up
returns-in-None-clause-stands c = λ w h.
    let k : IsNetwork (parts_of c.self.inside) w = subst (λ (p : Parts). IsNetwork p w) (sym c.self.view_is) h in
    subst (λ (o : Option Post). IsNetwork c.args.self.now (gone_up o w)) (sym (unnamed_post c.self.inside.mail w.to_eims w.to_ipa c.args.pick k.mail (ap option_copied (sym c.in-None.is) ∙ c.named.ensures ∙ ap (picked c.args.pick) c.as_slice.ensures))) h

pub returns-in-Ok-clause-end : goal.returns-in-Ok-clause-end
returns-in-Ok-clause-end c = λ w h.
    let k : IsNetwork (parts_of c.self.inside) w = subst (λ (p : Parts). IsNetwork p w) (sym c.self.view_is) h in
    let q : picked c.args.pick w.to_eims ≡ Some (record { to = c.in-Some.letter.now.peer; message = c.in-Ok.message }) = named_post c.self.inside.mail w.to_eims w.to_ipa c.args.pick c.in-Some.letter.now c.in-Ok.message k.mail (ap option_copied (sym c.in-Some.is) ∙ c.named.ensures ∙ ap (picked c.args.pick) c.as_slice.ensures) (λ y fits e. c.in-Ok.ensures.again y fits (c.as_slice-in-Some.ensures ∙ e)) in
    subst (λ (o : Option Post). IfOk c.hear.result (λ end. end ≡ heard_of o w.eims)) (sym q) (c.hear.ensures.end w h)

pub returns-in-Ok-clause-stands : goal.returns-in-Ok-clause-stands
unfolding acted
returns-in-Ok-clause-stands c = λ w h.
    let k : IsNetwork (parts_of c.self.inside) w = subst (λ (p : Parts). IsNetwork p w) (sym c.self.view_is) h in
    let q : picked c.args.pick w.to_eims ≡ Some (record { to = c.in-Some.letter.now.peer; message = c.in-Ok.message }) = named_post c.self.inside.mail w.to_eims w.to_ipa c.args.pick c.in-Some.letter.now c.in-Ok.message k.mail (ap option_copied (sym c.in-Some.is) ∙ c.named.ensures ∙ ap (picked c.args.pick) c.as_slice.ensures) (λ y fits e. c.in-Ok.ensures.again y fits (c.as_slice-in-Some.ensures ∙ e)) in
    subst (λ (o : Option Post). OnOk c.hear.result (IsNetwork c.hear.new.self (gone_up o w))) (sym q) (c.hear.ensures.stands w h)

pub returns-in-Ok-clause-limit : goal.returns-in-Ok-clause-limit
unfolding acted
returns-in-Ok-clause-limit c = λ w h e.
    let k : IsNetwork (parts_of c.self.inside) w = subst (λ (p : Parts). IsNetwork p w) (sym c.self.view_is) h in
    let q : picked c.args.pick w.to_eims ≡ Some (record { to = c.in-Some.letter.now.peer; message = c.in-Ok.message }) = named_post c.self.inside.mail w.to_eims w.to_ipa c.args.pick c.in-Some.letter.now c.in-Ok.message k.mail (ap option_copied (sym c.in-Some.is) ∙ c.named.ensures ∙ ap (picked c.args.pick) c.as_slice.ensures) (λ y fits e. c.in-Ok.ensures.again y fits (c.as_slice-in-Some.ensures ∙ e)) in
    subst (λ (o : Option Post). most_octets_sent < octets_sent (gone_up o w)) (sym q) (c.hear.ensures.limit w h e)
