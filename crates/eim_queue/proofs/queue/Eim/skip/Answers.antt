use Rattle.std.proofs.Common.{◌∙◌, ap, sym, subst, set, false, List, Some}
use Rattle.std.specs.Prelude.{slice_get}
use Rattle.esipa_codec.specs.Eims.{skipped}
use Rattle.eim_queue.specs.Queues.{Queue, IsEim, queue_of}
use Rattle.eim_queue.specs.declared.orders.Order.{Order}
use Rattle.eim_queue.proofs.Following.{first_there}
use Rattle.eim_queue.proofs.Standing.{found_order, skip_found, skip_stands, skip_none, skip_none_stands, given_up_in_order}
use Rattle.eim_queue.proofs.queue.Eim.skip.Goals as goal

pub returns-in-Some-clause-end : goal.returns-in-Some-clause-end
returns-in-Some-clause-end c = λ e h.
    let q : Queue = queue_of c.self.inside in
    let k = subst (λ (q : Queue). IsEim q e) (sym c.self.view_is) h in
    let p = sym c.first_waiting.ensures.place ∙ c.in-Some.is in
    let o = first_there (λ (x : Order). x.waits) q.orders c.in-Some.at p in
    let shown = ap (λ (os : List Order). slice_get os c.in-Some.at) c.first_waiting.ensures.same ∙ o.shown in
    ap (λ n. Some n) (c.give_up.ensures.counter o.it shown) ∙ skip_found q e c.in-Some.at o.it (found_order q e c.in-Some.at o.it k p (sym (o.got o.it)))

pub returns-in-Some-clause-stands : goal.returns-in-Some-clause-stands
returns-in-Some-clause-stands c = λ e h.
    let q : Queue = queue_of c.self.inside in
    let k = subst (λ (q : Queue). IsEim q e) (sym c.self.view_is) h in
    let p = sym c.first_waiting.ensures.place ∙ c.in-Some.is in
    let o = first_there (λ (x : Order). x.waits) q.orders c.in-Some.at p in
    let shown = ap (λ (os : List Order). slice_get os c.in-Some.at) c.first_waiting.ensures.same ∙ o.shown in
    let up = c.give_up.ensures.order o.it shown ∙ ap (λ (os : List Order). set os c.in-Some.at (record o.it { waits = false })) c.first_waiting.ensures.same in
    subst (λ (os : List Order). IsEim (record q { orders = os }) (skipped e)) (sym up)
    (skip_stands q e c.in-Some.at o.it k (found_order q e c.in-Some.at o.it k p (sym (o.got o.it))))

pub returns-in-None-clause-end : goal.returns-in-None-clause-end
returns-in-None-clause-end c = λ e h.
    let k = subst (λ (q : Queue). IsEim q e) (sym c.self.view_is) h in
    skip_none (queue_of c.self.inside) e k (sym c.first_waiting.ensures.place ∙ c.in-None.is)

pub returns-in-None-clause-stands : goal.returns-in-None-clause-stands
returns-in-None-clause-stands c = λ e h.
    let q : Queue = queue_of c.self.inside in
    let k = subst (λ (q : Queue). IsEim q e) (sym c.self.view_is) h in
    subst (λ (os : List Order). IsEim (record q { orders = os }) (skipped e)) (sym c.first_waiting.ensures.same)
    (skip_none_stands q e k (sym c.first_waiting.ensures.place ∙ c.in-None.is))

pub invariant_of-self : goal.invariant_of-self
invariant_of-self c =
    let q = c.self.inside in
    let o = first_there (λ (x : Order). x.waits) q.orders c.in-Some.at (sym c.first_waiting.ensures.place ∙ c.in-Some.is) in
    let shown = ap (λ (os : List Order). slice_get os c.in-Some.at) c.first_waiting.ensures.same ∙ o.shown in
    let up = c.give_up.ensures.order o.it shown ∙ ap (λ (os : List Order). set os c.in-Some.at (record o.it { waits = false })) c.first_waiting.ensures.same in
    let kept = given_up_in_order c.in-Some.at q.bound q.orders c.give_up.new.self o.it o.inside (o.got o.it) up (c.self.invariant.orders_fit, c.self.invariant.goes_on) in
    record { orders_fit = kept.0; bound_fits = c.self.invariant.bound_fits; goes_on = kept.1 }
