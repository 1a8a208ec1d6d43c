use Rattle.std.proofs.Common.{◌∷◌, [], ◌++◌, ◌+◌, ◌<◌, ◌∙◌, ◌≤◌, ap, sym, subst, arith, not, rules, List, Some}
use Rattle.std.proofs.lemmas.Grind.{common_steps}
use Rattle.small_card.specs.Lists.{Every, greatest}
use Rattle.small_card.specs.Ranges.{IsSigned}
use Rattle.small_card.proofs.ListLemmas.{every_push}
use Rattle.small_card.specs.declared.types.Signed.{Signed}
use Rattle.esipa_codec.specs.Eims.{ordered, package_of}
use Rattle.eim_queue.specs.Orders.{used_counters}
use Rattle.eim_queue.specs.Queues.{Queue, IsEim, queue_of}
use Rattle.eim_queue.specs.declared.orders.Order.{Order}
use Rattle.eim_queue.proofs.Keeping.{known_records}
use Rattle.eim_queue.proofs.Following.{goes_on_behind}
use Rattle.eim_queue.proofs.Standing.{next_order, next_end, next_stands, below_spent, behind_orders}
use Rattle.eim_queue.proofs.queue.Eim.order_next.Goals as goal

pub returns-in-Ok-clause-end : goal.returns-in-Ok-clause-end
returns-in-Ok-clause-end c = λ e h. next_end c.args.self.now e c.args.bound h c.requires.bound (below_spent c.args.bound.last c.requires.left)

pub returns-in-Ok-clause-stands : goal.returns-in-Ok-clause-stands
returns-in-Ok-clause-stands c = λ e h.
    let q : Queue = queue_of c.self.inside in
    let b = c.args.bound in
    let k = subst (λ (q : Queue). IsEim q e) (sym c.self.view_is) h in
    let known = c.is_known.ensures ∙ known_records q.records e.received b.association (b.last + 1) k.records_are in
    let its = c.package.ensures ∙ ap (λ (q : Queue). package_of q.id q.eid (next_order b c.args.body)) (sym c.self.view_is) in
    let orders = c.in-Ok.ensures.ok ∙ ap (λ (s : Signed). q.orders ++ record { signed = s; waits = not c.is_known.result } ∷ []) its in
    subst (λ (os : List Order). IsEim (record q { bound = Some (record b { last = b.last + 1 }); orders = os }) (ordered c.args.body e)) (sym orders)
    (next_stands q e b c.args.body c.is_known.result k (sym (ap (λ (q : Queue). q.bound) (sym c.self.view_is)) ∙ c.requires.bound) (below_spent b.last c.requires.left) known)

pub push-requires : goal.push-requires
push-requires c =
    let q = c.self.inside in
    let b = c.args.bound in
    let below = behind_orders q.bound b q.orders (sym (ap (λ (q : Queue). q.bound) (sym c.self.view_is)) ∙ c.requires.bound) c.self.invariant.goes_on in
    subst (λ (s : Signed). greatest (used_counters s.«package».association q.orders) < s.«package».counter) (sym c.package.ensures) (omega (arith, below))

pub invariant_of-self : goal.invariant_of-self
invariant_of-self c =
    let q = c.self.inside in
    let b = c.args.bound in
    let o : Order = record { signed = c.package.result; waits = not c.is_known.result } in
    let below = behind_orders q.bound b q.orders (sym (ap (λ (q : Queue). q.bound) (sym c.self.view_is)) ∙ c.requires.bound) c.self.invariant.goes_on in
    record {
      orders_fit = subst (λ (os : List Order). Every (λ o. IsSigned o.signed) os) (sym c.in-Ok.ensures.ok)
          (every_push (λ (o : Order). IsSigned o.signed) q.orders o c.self.invariant.orders_fit (first_of (search rules, grind (arith, common_steps))));
      bound_fits = first_of (search rules, grind (arith, common_steps));
      goes_on = subst (λ (os : List Order). greatest (used_counters b.association os) ≤ b.last + 1) (sym c.in-Ok.ensures.ok)
          (goes_on_behind b.association b.last q.orders o below (omega (arith, ap (λ (s : Signed). s.«package».counter) c.package.ensures)));
    }
