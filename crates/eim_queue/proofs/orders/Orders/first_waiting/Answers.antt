use Rattle.std.proofs.Common.{◌∙◌, ap, List}
use Rattle.std.specs.Prelude.{position}
use Rattle.std.specs.Option.{unwrap_or}
use Rattle.eim_queue.specs.declared.orders.Order.{Order}
use Rattle.eim_queue.proofs.Following.{orders_from}
use Rattle.eim_queue.proofs.orders.Orders.first_waiting.Goals as goal

pub invariant_of-self : goal.invariant_of-self
invariant_of-self c =
    let first = c.next_waiting-found.ensures ∙ ap (λ (os : List Order). position (λ (o : Order). o.waits) os) c.deref.ensures.value in
    orders_from c.self.inside.items.items c.self.inside.first c.unwrap_or-self-inside.result c.self.inside.places c.self.inside.counters c.self.invariant
    (c.unwrap_or-self-inside.ensures ∙ ap (λ o. unwrap_or o c.len.result) first ∙ ap (unwrap_or (position (λ (o : Order). o.waits) c.self.inside.items.items)) (c.len.ensures ∙ c.self.inside.items.ok.0))
