use Rattle.std.proofs.Common.{◌∙◌, ap, sym, subst}
use Rattle.small_card.specs.Lists.{greatest}
use Rattle.eim_queue.specs.Orders.{used_counters}
use Rattle.eim_queue.specs.Queues.{Queue, IsEim, queue_of}
use Rattle.eim_queue.proofs.Standing.{low_end, low_stands, bound_end, bound_stands}
use Rattle.eim_queue.proofs.queue.Eim.bind.Goals as goal

pub returns-then-last-used-clause-end : goal.returns-then-last-used-clause-end
returns-then-last-used-clause-end c = λ e h.
    let u = c.greatest_used-used.ensures in
    low_end (queue_of c.self.inside) e c.args.association c.args.last c.greatest_used-used.result (subst (λ (q : Queue). IsEim q e) (sym c.self.view_is) h) u c.if-last-used.true

pub returns-then-last-used-clause-stands : goal.returns-then-last-used-clause-stands
returns-then-last-used-clause-stands c = λ e h.
    let u = c.greatest_used-used.ensures ∙ ap (λ (q : Queue). greatest (used_counters c.args.association q.orders)) c.self.view_is in
    low_stands c.args.self.now e c.args.association c.args.last c.greatest_used-used.result h u c.if-last-used.true

pub returns-clause-end : goal.returns-clause-end
returns-clause-end c = λ e h.
    let u = c.greatest_used-used.ensures in
    bound_end (queue_of c.self.inside) e c.args.association c.args.last c.greatest_used-used.result (subst (λ (q : Queue). IsEim q e) (sym c.self.view_is) h) u c.if-last-used.false

pub returns-clause-stands : goal.returns-clause-stands
returns-clause-stands c = λ e h.
    let u = c.greatest_used-used.ensures in
    bound_stands (queue_of c.self.inside) e c.args.association c.args.last c.greatest_used-used.result (subst (λ (q : Queue). IsEim q e) (sym c.self.view_is) h) u c.if-last-used.false
