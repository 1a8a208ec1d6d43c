use Rattle.std.proofs.Common.{◌∙◌, ap, sym, arith, List, set, map}
use Rattle.eim_queue.specs.Orders.{settled}
use Rattle.eim_queue.specs.declared.orders.Order.{Order}
use Rattle.eim_queue.proofs.Following.{orders_settled, settled_at, settled_beyond, settled_nowhere}
use Rattle.eim_queue.proofs.orders.Orders.settle.Goals as goal

pub invariant_of-self : goal.invariant_of-self
invariant_of-self c =
    let os = c.self.inside.items.items in
    let k = c.index_mut.result.now in
    orders_settled c.args.association c.args.counter os (set os c.in-Some.at c.settle_one.new.order) c.self.inside.first c.self.inside.places c.self.inside.counters c.self.invariant
    (ap (λ (x : Order). set os c.in-Some.at x) (c.settle_one.ensures ∙ ap (settled c.args.association c.args.counter) c.index_mut.ensures.value)
    ∙ settled_at c.args.association c.args.counter os c.in-Some.at k c.self.inside.places c.self.invariant.places (sym c.place.ensures ∙ c.in-Some.is) (omega (arith, c.if-at-len.true, c.len.ensures, c.self.inside.items.ok.0)))

pub returns-then-at-len : goal.returns-then-at-len
returns-then-at-len c =
    let os = c.self.inside.items.items in
    let k = c.index_mut.result.now in
    ap (λ (x : Order). set os c.in-Some.at x) (c.settle_one.ensures ∙ ap (settled c.args.association c.args.counter) c.index_mut.ensures.value)
    ∙ settled_at c.args.association c.args.counter os c.in-Some.at k c.self.inside.places c.self.invariant.places (sym c.place.ensures ∙ c.in-Some.is) (omega (arith, c.if-at-len.true, c.len.ensures, c.self.inside.items.ok.0))
    ∙ ap (λ (xs : List Order). map (settled c.args.association c.args.counter) xs) c.self.view_is

pub returns-else-at-len : goal.returns-else-at-len
returns-else-at-len c =
    let os = c.self.inside.items.items in
    sym c.self.view_is
    ∙ settled_beyond c.args.association c.args.counter os c.in-Some.at c.self.inside.places c.self.invariant.places (sym c.place.ensures ∙ c.in-Some.is) (omega (arith, c.if-at-len.false, c.len.ensures, c.self.inside.items.ok.0))
    ∙ ap (λ (xs : List Order). map (settled c.args.association c.args.counter) xs) c.self.view_is

pub returns-in-None : goal.returns-in-None
returns-in-None c =
    sym c.self.view_is
    ∙ settled_nowhere c.args.association c.args.counter c.self.inside.items.items c.self.inside.places c.self.invariant.places (sym c.place.ensures ∙ c.in-None.is)
    ∙ ap (λ (xs : List Order). map (settled c.args.association c.args.counter) xs) c.self.view_is
