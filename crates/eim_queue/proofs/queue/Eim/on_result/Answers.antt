use Rattle.std.proofs.Common.{◌∙◌, ap, sym, subst}
use Rattle.small_card.specs.Lists.{same}
use Rattle.eim_queue.specs.Queues.{Queue, IsEim, queue_of}
use Rattle.eim_queue.proofs.Standing.{other_result, other_heard, own_result, own_heard, settled_in_order}
use Rattle.eim_queue.proofs.Sending.{ack_sendable}
use Rattle.eim_queue.proofs.queue.Eim.on_result.Goals as goal

pub returns-in-Ok-clause-range : goal.returns-in-Ok-clause-range
returns-in-Ok-clause-range c = λ fits. ack_sendable c.args.item.seq fits

pub returns-then-not-is_same_eim-clause-end : goal.returns-then-not-is_same_eim-clause-end
returns-then-not-is_same_eim-clause-end c = λ e h.
    other_result c.args.item (queue_of c.self.inside) e (subst (λ (q : Queue). IsEim q e) (sym c.self.view_is) h) (sym c.is_same_eim.ensures ∙ c.if-not-is_same_eim.true)

pub returns-then-not-is_same_eim-clause-stands : goal.returns-then-not-is_same_eim-clause-stands
returns-then-not-is_same_eim-clause-stands c = λ e h.
    other_heard c.args.item c.args.self.now e h (ap (λ (q : Queue). same c.args.item.eim q.id) (sym c.self.view_is) ∙ sym c.is_same_eim.ensures ∙ c.if-not-is_same_eim.true)

pub returns-in-Ok-clause-end : goal.returns-in-Ok-clause-end
returns-in-Ok-clause-end c = λ e h.
    own_result c.args.item (queue_of c.self.inside) e (subst (λ (q : Queue). IsEim q e) (sym c.self.view_is) h) (sym c.is_same_eim.ensures ∙ c.if-not-is_same_eim.false)

pub returns-in-Ok-clause-stands : goal.returns-in-Ok-clause-stands
returns-in-Ok-clause-stands c = λ e h.
    let k = subst (λ (q : Queue). IsEim q e) (sym c.self.view_is) h in
    own_heard c.args.item (queue_of c.self.inside) e _ _ k (sym c.is_same_eim.ensures ∙ c.if-not-is_same_eim.false) (c.in-Ok.ensures.ok e.received k.records_are) c.settle.ensures

pub invariant_of-self : goal.invariant_of-self
invariant_of-self c =
    let q = c.self.inside in
    let kept = settled_in_order c.args.item.association c.args.item.counter q.bound q.orders c.settle.new.self c.settle.ensures (c.self.invariant.orders_fit, c.self.invariant.goes_on) in
    record { orders_fit = kept.0; bound_fits = c.self.invariant.bound_fits; goes_on = kept.1 }
