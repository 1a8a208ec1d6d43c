use Rattle.std.proofs.Common.{◌∙◌, ap, sym, subst, get_or, List}
use Rattle.std.specs.Prelude.{position}
use Rattle.eim_queue.specs.Queues.{Queue, IsEim, queue_of}
use Rattle.eim_queue.specs.declared.orders.Order.{Order}
use Rattle.eim_queue.proofs.Standing.{other_poll, empty_poll, served_poll, served_then, found_order}
use Rattle.eim_queue.proofs.Sending.{nothing_sendable}
use Rattle.eim_queue.proofs.queue.Eim.fetched.Goals as goal

pub returns-then-not-is_same_card-clause-range : goal.returns-then-not-is_same_card-clause-range
returns-then-not-is_same_card-clause-range c = nothing_sendable

pub returns-in-None-clause-range : goal.returns-in-None-clause-range
returns-in-None-clause-range c = nothing_sendable

pub returns-then-not-is_same_card-clause-end : goal.returns-then-not-is_same_card-clause-end
returns-then-not-is_same_card-clause-end c = λ e h.
    other_poll c.args.eid.now (queue_of c.self.inside) e (subst (λ (q : Queue). IsEim q e) (sym c.self.view_is) h) (sym c.is_same_card.ensures ∙ c.if-not-is_same_card.true)

pub returns-in-Some-clause-end : goal.returns-in-Some-clause-end
returns-in-Some-clause-end c = λ e h.
    let q : Queue = queue_of c.self.inside in
    let k = subst (λ (q : Queue). IsEim q e) (sym c.self.view_is) h in
    let p = ap (λ (q : Queue). position (λ (o : Order). o.waits) q.orders) c.self.view_is ∙ sym c.requires ∙ c.in-Some.is in
    let seen = c.as_slice.result.now in
    let o : Order = get_or seen c.in-Some.at c.index-as_slice-at.result in
    let is = ap (λ (x : Order). get_or seen c.in-Some.at x) c.index-as_slice-at.is ∙ ap (λ (os : List Order). get_or os c.in-Some.at o) c.as_slice.ensures in
    served_then c.spelled.result _ _ (served_poll c.args.eid.now q e c.in-Some.at o k (sym c.is_same_card.ensures ∙ c.if-not-is_same_card.false) (found_order q e c.in-Some.at o k p is)) c.spelled.ensures.end

pub returns-in-None-clause-end : goal.returns-in-None-clause-end
returns-in-None-clause-end c = λ e h.
    let k = subst (λ (q : Queue). IsEim q e) (sym c.self.view_is) h in
    let p = ap (λ (q : Queue). position (λ (o : Order). o.waits) q.orders) c.self.view_is ∙ sym c.requires ∙ c.in-None.is in
    empty_poll c.args.eid.now (queue_of c.self.inside) e k (sym c.is_same_card.ensures ∙ c.if-not-is_same_card.false) p
