use Rattle.std.proofs.Common.{◌∙◌, sym, subst}
use Rattle.esipa_codec.specs.Assistant.{message}
use Rattle.world_network.specs.Networks.{Parts, IsNetwork, parts_of}
use Rattle.world_network.proofs.Places.{heard_id, handed_on}
use Rattle.world_network.proofs.Standing.{gone_up_network, gone_up_limit, said_fits, heard_same}
use Rattle.world_network.proofs.network.Network.hear.Goals as goal

pub returns-in_err-send_said-in-Ok-clause-limit : goal.returns-in_err-send_said-in-Ok-clause-limit
returns-in_err-send_said-in-Ok-clause-limit c = λ w h e.
    let k : IsNetwork (parts_of c.self.inside) w = subst (λ (p : Parts). IsNetwork p w) (sym c.self.view_is) h in
    gone_up_limit (parts_of c.self.inside) w (record { to = c.args.to; message = c.args.message }) c.in-Ok.said k (c.in-Ok.ensures.end w.eims k.eims ∙ sym (heard_same (record { to = c.args.to; message = c.args.message }) w.eims)) (c.in_err-send_said-in-Ok.ensures.limit (handed_on c.from_residual.result c.in_err-send_said-in-Ok.field-0.0 _ c.from_residual.ensures.1 e))

pub returns-in_ok-send_said-in-Ok-clause-end : goal.returns-in_ok-send_said-in-Ok-clause-end
returns-in_ok-send_said-in-Ok-clause-end c = λ w h.
    let k : IsNetwork (parts_of c.self.inside) w = subst (λ (p : Parts). IsNetwork p w) (sym c.self.view_is) h in
    c.in-Ok.ensures.end w.eims k.eims ∙ sym (heard_same (record { to = c.args.to; message = c.args.message }) w.eims)

pub returns-in_ok-send_said-in-Ok-clause-stands : goal.returns-in_ok-send_said-in-Ok-clause-stands
returns-in_ok-send_said-in-Ok-clause-stands c = λ w h.
    let k : IsNetwork (parts_of c.self.inside) w = subst (λ (p : Parts). IsNetwork p w) (sym c.self.view_is) h in
    gone_up_network (parts_of c.self.inside) w (record { to = c.args.to; message = c.args.message }) c.hear.new.managers.items c.send_said.new.self c.in-Ok.said k (c.in-Ok.ensures.stands w.eims k.eims k.apart) (heard_id c.args.message) (c.in-Ok.ensures.end w.eims k.eims ∙ sym (heard_same (record { to = c.args.to; message = c.args.message }) w.eims))
    (said_fits c.args.to c.in-Ok.said (c.in-Ok.ensures.range c.requires)) c.send_said.ensures.few c.in_ok-send_said-in-Ok.ensures.ok
