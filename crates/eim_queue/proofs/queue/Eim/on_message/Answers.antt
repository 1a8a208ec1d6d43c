use Rattle.std.proofs.Common.{Some, sym, subst, ◌∙◌, ap}
use Rattle.esipa_codec.specs.Eims.{heard, message_end}
use Rattle.esipa_codec.specs.declared.messages.ToEim.{ToEim}
use Rattle.eim_queue.specs.Queues.{Queue, IsEim, IfServed, queue_of}
use Rattle.eim_queue.proofs.Standing.{poll_heard, refusal_end, refusal_heard, served_all}
use Rattle.esipa_codec.specs.Ranges.{IsToEim}
use Rattle.eim_queue.proofs.queue.Eim.on_message.Goals as goal

pub returns-in-Result-clause-range : goal.returns-in-Result-clause-range
unfolding IsToEim
returns-in-Result-clause-range c = λ fits. c.on_result.ensures.range (subst IsToEim c.in-Result.is fits).seq

pub returns-in-Poll-clause-stands : goal.returns-in-Poll-clause-stands
returns-in-Poll-clause-stands c = λ e h.
    subst (λ (m : ToEim). IfServed c.on_poll.result (IsEim c.on_poll.new.self (heard m e))) (sym c.in-Poll.is)
    (served_all c.on_poll.result _ (poll_heard c.in-Poll.eid c.on_poll.new.self e (subst (λ (q : Queue). IsEim q e) (sym c.on_poll.ensures.same) h)))

pub returns-in-Refused-clause-end : goal.returns-in-Refused-clause-end
returns-in-Refused-clause-end c = λ e h. refusal_end c.in-Refused.refused e ∙ ap (λ (m : ToEim). message_end m e) (sym c.in-Refused.is)

pub returns-in-Refused-clause-stands : goal.returns-in-Refused-clause-stands
returns-in-Refused-clause-stands c = λ e h.
    subst (λ (m : ToEim). IsEim (record (queue_of c.self.inside) { refusal = Some c.in-Refused.refused }) (heard m e)) (sym c.in-Refused.is)
    (refusal_heard c.in-Refused.refused (queue_of c.self.inside) e (subst (λ (q : Queue). IsEim q e) (sym c.self.view_is) h))
