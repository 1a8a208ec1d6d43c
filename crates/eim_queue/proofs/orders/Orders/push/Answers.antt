use Rattle.std.proofs.Common.{◌<◌, ◌∙◌, ap, sym, subst, refl, List, length, take}
use Rattle.small_card.specs.Lists.{greatest}
use Rattle.eim_queue.specs.Orders.{used_counters, AreOrders}
use Rattle.eim_queue.specs.declared.orders.Order.{Order}
use Rattle.eim_queue.proofs.Finding.{Keeps}
use Rattle.eim_queue.proofs.Following.{orders_more, orders_unpushed, unpushed}
use Rattle.eim_queue.proofs.orders.Orders.push.Goals as goal

pub invariant_of-self-in_err-push_order : goal.invariant_of-self-in_err-push_order
invariant_of-self-in_err-push_order c =
    let q = c.self.inside in
    let p = c.args.order.signed.«package» in
    let below = subst (λ (xs : List Order). greatest (used_counters p.association xs) < p.counter) (sym c.self.view_is) c.requires in
    let kept : Keeps q.places c.keep_place.new.places p.association p.counter (length q.items.items) = subst (Keeps q.places c.keep_place.new.places p.association p.counter) (c.len-last.ensures ∙ q.items.ok.0) (record { places = c.in_ok-keep_place.ensures.ok }) in
    subst (λ (xs : List Order). AreOrders xs q.first c.keep_place.new.places q.counters) (sym c.in_err-push_order.ensures.err)
    (orders_unpushed q.items.items c.args.order q.first q.places c.keep_place.new.places q.counters q.counters c.self.invariant below kept (λ a. refl))

pub invariant_of-self-in-Ok : goal.invariant_of-self-in-Ok
invariant_of-self-in-Ok c =
    let q = c.self.inside in
    let p = c.args.order.signed.«package» in
    let below = subst (λ (xs : List Order). greatest (used_counters p.association xs) < p.counter) (sym c.self.view_is) c.requires in
    let kept : Keeps q.places c.keep_place.new.places p.association p.counter (length q.items.items) = subst (Keeps q.places c.keep_place.new.places p.association p.counter) (c.len-last.ensures ∙ q.items.ok.0) (record { places = c.in_ok-keep_place.ensures.ok }) in
    subst (λ (xs : List Order). AreOrders xs q.first c.keep_place.new.places c.keep_counter.new.counters) (sym c.in_ok-push_order.ensures.ok)
    (orders_more q.items.items c.args.order q.first q.places c.keep_place.new.places q.counters c.keep_counter.new.counters c.self.invariant below kept (record { counters = c.in-Ok.ensures.ok }))

pub invariant_of-self-in-Err : goal.invariant_of-self-in-Err
invariant_of-self-in-Err c =
    let q = c.self.inside in
    let p = c.args.order.signed.«package» in
    let below = subst (λ (xs : List Order). greatest (used_counters p.association xs) < p.counter) (sym c.self.view_is) c.requires in
    let kept : Keeps q.places c.keep_place.new.places p.association p.counter (length q.items.items) = subst (Keeps q.places c.keep_place.new.places p.association p.counter) (c.len-last.ensures ∙ q.items.ok.0) (record { places = c.in_ok-keep_place.ensures.ok }) in
    let back = c.truncate.ensures.items ∙ ap (λ (xs : List Order). take c.len-last.result xs) c.in_ok-push_order.ensures.ok ∙ unpushed c.len-last.result q.items.items c.args.order (c.len-last.ensures ∙ q.items.ok.0) in
    subst (λ (xs : List Order). AreOrders xs q.first c.keep_place.new.places c.keep_counter.new.counters) (sym back)
    (orders_unpushed q.items.items c.args.order q.first q.places c.keep_place.new.places q.counters c.keep_counter.new.counters c.self.invariant below kept c.in-Err.ensures.err)
