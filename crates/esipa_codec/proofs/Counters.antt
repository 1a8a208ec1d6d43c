-- Orders of one association have rising counters, whatever the eIM is bound to.
use Rattle.std.proofs.Common.{◌≡◌, ℕ, ◌≤◌, ◌<◌, ◌+◌, false, List, [], ◌∷◌, ◌++◌, refl, ◌∙◌, sym, arith, Option, None, Some, true, Bool}
use Rattle.std.specs.Prelude.{◌==◌, nat_lt, map, filter, IfSome}
use Rattle.std.proofs.lemmas.Bool.{cond_both, eq-eqb, ltb-false, true≢false}
use Rattle.small_card.specs.Lists.{same, greatest, Every, EveryPair}
use Rattle.small_card.specs.declared.types.Body.{Body}
use Rattle.small_card.proofs.ListLemmas.{every_mono, every_push, pair_push}
use Rattle.small_card.specs.Ranges.{greatest_counter}
use Rattle.esipa_codec.specs.Eims.{EimState, Order, counters_of, bound_to, ordered_by, ordered, waits, skip_first, skipped, heard}
use Rattle.esipa_codec.specs.Events.{EimEvent, bind, order, skip, message, after_event, after_events}
use Rattle.esipa_codec.specs.declared.ends.Binding.{Binding}
use Rattle.esipa_codec.specs.declared.messages.ToEim.{ToEim}
use Rattle.esipa_codec.specs.declared.messages.ToEim.TheVariants as to_eim

-- of one association, the later order has the greater counter
abbrev pub Rise : Order → Order → Type 0
Rise earlier later = earlier.association ≡ later.association → earlier.counter < later.counter

-- the orders of this association have no counter above the last one
abbrev pub AreBelow : Binding → List Order → Type 0
AreBelow b orders = Every (λ o. o.association ≡ b.association → o.counter ≤ b.last) orders

pub record Rising (orders : List Order) (bound : Option Binding) : Type 0 where
  pub rise : EveryPair Rise orders
  pub below : IfSome bound (λ b. AreBelow b orders)

-- what is at least the greatest counter of an association is at least each
counters_below : (b : Binding) (orders : List Order) → greatest (counters_of b.association orders) ≤ b.last → AreBelow b orders
unfolding counters_of
counters_below b [] l = tt
counters_below b (o ∷ os) l =
    let test : Order → Bool = λ o. o.association == b.association in
    cond_both (o.association == b.association) (o ∷ filter test os) (filter test os)
    (λ kept. greatest (map (λ (o : Order). o.counter) kept) ≤ b.last → AreBelow b (o ∷ os))
    (λ _ n. (λ _. omega (arith, n), counters_below b os (omega (arith, n))))
    (λ other n. (λ e. absurd (true≢false (sym (eq-eqb o.association b.association e) ∙ other)), counters_below b os n))
    l

bound_rises : (b : Binding) (e : EimState) → Rising e.orders e.bound → Rising (bound_to b.association b.last e).orders (bound_to b.association b.last e).bound
unfolding bound_to
bound_rises b e h =
    let used : ℕ = greatest (counters_of b.association e.orders) in
    cond_both (nat_lt b.last used) e (record e { bound = Some (record { association = b.association; last = b.last }) }) (λ (y : EimState). Rising y.orders y.bound)
    (λ _. h)
    (λ off. record { rise = h.rise; below = counters_below b e.orders (ltb-false b.last used off) })

-- one more order, under the next counter
more_rises : (b : Binding) (o : Order) (orders : List Order) → o.association ≡ b.association → o.counter ≡ b.last + 1 → EveryPair Rise orders → AreBelow b orders
    → Rising (orders ++ o ∷ []) (Some (record b { last = b.last + 1 }))
more_rises b o orders a n rise below = record {
  rise = pair_push Rise orders o rise (every_mono (λ x. x.association ≡ b.association → x.counter ≤ b.last) (λ x. Rise x o)
      (λ x k s. let l = k (s ∙ a) in omega (arith, n, l)) orders below);
  below = every_push (λ x. x.association ≡ b.association → x.counter ≤ b.last + 1) orders o
      (every_mono (λ x. x.association ≡ b.association → x.counter ≤ b.last) (λ x. x.association ≡ b.association → x.counter ≤ b.last + 1)
      (λ x k s. let l = k s in omega (arith, l)) orders below)
      (λ _. omega (arith, n));
}

ordered_rises : (bound : Option Binding) (body : Body) (e : EimState) → e.bound ≡ bound → Rising e.orders bound → Rising (ordered_by bound body e).orders (ordered_by bound body e).bound
ordered_rises None body e k h = record { rise = h.rise; below = rw k tt }
ordered_rises (Some b) body e k h =
    let o : Order = record { association = b.association; counter = b.last + 1; body = body; skipped = false } in
    cond_both (b.last == greatest_counter) e (record e { bound = Some (record b { last = b.last + 1 }); orders = e.orders ++ o ∷ [] })
    (λ (y : EimState). Rising y.orders y.bound)
    (λ _. record { rise = h.rise; below = rw k h.below })
    (λ _. more_rises b o e.orders refl refl h.rise h.below)

-- giving an order up changes neither associations nor counters
skip_every : (P : Order → Type 0) → ((o : Order) → P o → P (record o { skipped = true })) → (test : Order → Bool) (orders : List Order) → Every P orders → Every P (skip_first test orders)
unfolding skip_first
skip_every P still test [] h = tt
skip_every P still test (o ∷ os) h =
    cond_both (test o) (record o { skipped = true } ∷ os) (o ∷ skip_first test os) (Every P)
    (λ _. (still o h.0, h.1)) (λ _. (h.0, skip_every P still test os h.1))

skip_rises : (test : Order → Bool) (orders : List Order) → EveryPair Rise orders → EveryPair Rise (skip_first test orders)
unfolding skip_first
skip_rises test [] h = tt
skip_rises test (o ∷ os) h =
    cond_both (test o) (record o { skipped = true } ∷ os) (o ∷ skip_first test os) (EveryPair Rise)
    (λ _. h)
    (λ _. (skip_every (Rise o) (λ x k. k) test os h.0, skip_rises test os h.1))

skip_below : (bound : Option Binding) (test : Order → Bool) (orders : List Order) → IfSome bound (λ b. AreBelow b orders) → IfSome bound (λ b. AreBelow b (skip_first test orders))
skip_below None test orders h = tt
skip_below (Some b) test orders h = skip_every (λ o. o.association ≡ b.association → o.counter ≤ b.last) (λ x k. k) test orders h

heard_rises : (m : ToEim) (e : EimState) → Rising e.orders e.bound → Rising (heard m e).orders (heard m e).bound
unfolding heard
heard_rises (to_eim.Poll eid) e h = h
heard_rises (to_eim.Refused f) e h = h
heard_rises (to_eim.Result r) e h =
    cond_both (same r.eim e.id) (record e { received = r ∷ e.received }) e (λ (y : EimState). Rising y.orders y.bound) (λ _. h) (λ _. h)

event_rises : (x : EimEvent) (e : EimState) → Rising e.orders e.bound → Rising (after_event x e).orders (after_event x e).bound
unfolding after_event ordered skipped
event_rises (bind association last) e h = bound_rises (record { association = association; last = last }) e h
event_rises (order body) e h = ordered_rises e.bound body e refl h
event_rises skip e h = record { rise = skip_rises (waits e.received) e.orders h.rise; below = skip_below e.bound (waits e.received) e.orders h.below }
event_rises (message m) e h = heard_rises m e h

pub events_rise : (id eid : List ℕ) (events : List EimEvent) → Rising (after_events id eid events).orders (after_events id eid events).bound
unfolding after_events
events_rise id eid [] = record { rise = tt; below = tt }
events_rise id eid (x ∷ xs) = event_rises x (after_events id eid xs) (events_rise id eid xs)
