use Rattle.std.proofs.Common.{◌∙◌, ap, List, false, set}
use Rattle.std.specs.Prelude.{slice_get}
use Rattle.eim_queue.specs.Orders.{order_key}
use Rattle.eim_queue.specs.declared.orders.Order.{Order}
use Rattle.eim_queue.proofs.Finding.{got}
use Rattle.eim_queue.proofs.Following.{orders_stay, given_up_keys, given_up_passed}
use Rattle.eim_queue.proofs.orders.Orders.give_up.Goals as goal

pub invariant_of-self : goal.invariant_of-self
invariant_of-self c =
    let os = c.self.inside.items.items in
    let o = c.give_up.new.order in
    orders_stay os (set os c.args.at o) c.self.inside.first c.self.inside.places c.self.inside.counters c.self.invariant
    (given_up_keys c.args.at os o c.index_mut.result.now (ap order_key (c.give_up.ensures.order) ∙ ap order_key c.index_mut.ensures.value))
    (given_up_passed c.self.inside.first c.args.at os o (ap (λ (x : Order). x.waits) c.give_up.ensures.order) c.self.invariant.passed)

pub returns-clause-order : goal.returns-clause-order
returns-clause-order c = λ o h.
    let os = c.self.inside.items.items in
    let is = c.index_mut.ensures.value ∙ got os c.args.at o c.index_mut.result.now (ap (λ (xs : List Order). slice_get xs c.args.at) c.self.view_is ∙ h) in
    ap (λ (x : Order). set os c.args.at x) (c.give_up.ensures.order ∙ ap (λ (x : Order). record x { waits = false }) is)
    ∙ ap (λ (xs : List Order). set xs c.args.at (record o { waits = false })) c.self.view_is

pub returns-clause-counter : goal.returns-clause-counter
returns-clause-counter c = λ o h.
    let os = c.self.inside.items.items in
    c.give_up.ensures.counter
    ∙ ap (λ (x : Order). x.signed.«package».counter) (c.index_mut.ensures.value ∙ got os c.args.at o c.index_mut.result.now (ap (λ (xs : List Order). slice_get xs c.args.at) c.self.view_is ∙ h))
