-- A queue stands for an eIM, before and after each event.
use Rattle.std.proofs.Common.{◌≡◌, ℕ, ◌≤◌, ◌<◌, ◌+◌, Bool, true, false, not, ◌&&◌, ◌||◌, cond, List, [], ◌∷◌, ◌++◌, length, map, refl, ◌∙◌, ap, sym, subst, arith, zero, suc, Option, None, Some, nat_lt, get_or, set}
use Rattle.std.specs.Prelude.{◌==◌, ◌-◌, find, filter, position, IfSome}
use Rattle.std.proofs.lemmas.Bool.{cond-true, cond-false, eqb-true, lt-ltb, le-ltb}
use Rattle.std.proofs.lemmas.List.{map-append, map-set, get_or-map, length-map}
use Rattle.std.proofs.lemmas.List.Quantifiers.{position-Some}
use Rattle.small_card.specs.Lists.{same, greatest, Every}
use Rattle.small_card.specs.Ranges.{IsSigned, greatest_counter}
use Rattle.small_card.specs.declared.types.Body.{Body}
use Rattle.small_card.specs.declared.types.Body.TheVariants.{Psmos}
use Rattle.small_card.specs.declared.types.PackageResult.{PackageResult}
use Rattle.small_card.specs.declared.types.Refused.{Refused}
use Rattle.esipa_codec.specs.Eims.{EimState, Order as Ordered, new_eim, counters_of, bind_end, bound_to, order_end, order_end_of, ordered, ordered_by, waits, first_waiting, skip_first, skipped, skip_end, counter_of, package_of, answer_with, message_end, heard}
use Rattle.esipa_codec.specs.Records.{is_of, is_recorded, keys}
use Rattle.esipa_codec.specs.declared.ends.Binding.{Binding}
use Rattle.esipa_codec.specs.declared.ends.BindEnd.TheVariants as bound
use Rattle.esipa_codec.specs.declared.ends.OrderEnd.TheVariants as order_answer
use Rattle.esipa_codec.specs.declared.ends.MessageEnd.{MessageEnd}
use Rattle.esipa_codec.specs.declared.ends.MessageEnd.TheVariants as answer
use Rattle.esipa_codec.specs.declared.messages.ToEim.TheVariants as to_eim
use Rattle.esipa_codec.specs.declared.messages.ToIpa.{ToIpa}
use Rattle.esipa_codec.specs.declared.messages.ToIpa.TheVariants as to_ipa
use Rattle.package_codec.specs.Spelling.{signed}
use Rattle.small_card.proofs.ListLemmas.{nowhere}
use Rattle.eim_queue.specs.Records.{AreRecords}
use Rattle.eim_queue.specs.Orders.{order_key, used_counters, settled}
use Rattle.eim_queue.specs.Queues.{Queue, IsEim, IfServed, kept_order}
use Rattle.eim_queue.specs.declared.orders.Order.{Order}
use Rattle.eim_queue.proofs.Following.{same_used, settled_keys, given_up_keys}

no_records : AreRecords [] []
unfolding keys
no_records = record { order = refl; each = tt }

-- A queue without orders, records and a binding is that of a new eIM.
pub new_stands : (id eid : List ℕ) (os : List Order) (rs : List PackageResult) → os ≡ [] → rs ≡ []
    → IsEim (record { id = id; eid = eid; bound = None; orders = os; records = rs; refusal = None }) (new_eim id eid)
new_stands id eid os rs o r = record {
  id_is = refl;
  eid_is = refl;
  bound_is = refl;
  orders_are = o;
  records_are = subst (λ (xs : List PackageResult). AreRecords xs []) (sym r) no_records;
  refusal_is = refl;
}

abbrev counters : List Order → List ℕ
counters os = map (λ o. o.signed.«package».counter) os

-- the counters of the orders as the queue keeps them
on_test : (b : Bool) (k : Order) (o : Ordered) (ks : List Order) (os : List Ordered) → k.signed.«package».counter ≡ o.counter → counters ks ≡ map (λ (x : Ordered). x.counter) os
    → counters (cond b (k ∷ ks) ks) ≡ map (λ (x : Ordered). x.counter) (cond b (o ∷ os) os)
on_test true k o ks os n e = ap (λ c. c ∷ counters ks) n ∙ ap (λ cs. o.counter ∷ cs) e
on_test false k o ks os n e = e

same_counters : (id eid : List ℕ) (received : List PackageResult) (association : ℕ) (os : List Ordered)
    → used_counters association (map (kept_order id eid received) os) ≡ counters_of association os
unfolding used_counters counters_of
same_counters id eid received association [] = refl
same_counters id eid received association (o ∷ os) =
    on_test (o.association == association) (kept_order id eid received o) o
    (filter (λ (k : Order). k.signed.«package».association == association) (map (kept_order id eid received) os))
    (filter (λ (x : Ordered). x.association == association) os)
    refl (same_counters id eid received association os)

used_is : (q : Queue) (e : EimState) (association : ℕ) → IsEim q e → greatest (used_counters association q.orders) ≡ greatest (counters_of association e.orders)
used_is q e association h = ap (λ os. greatest (used_counters association os)) h.orders_are ∙ ap greatest (same_counters e.id e.eid e.received association e.orders)

pub low_end : (q : Queue) (e : EimState) (association last used : ℕ) → IsEim q e → used ≡ greatest (used_counters association q.orders) → last < used → bound.Low used ≡ bind_end association last e
unfolding bind_end
low_end q e association last used h u l =
    let n : used ≡ greatest (counters_of association e.orders) = u ∙ used_is q e association h in
    ap (λ c. bound.Low c) n ∙ sym (cond-true (nat_lt last (greatest (counters_of association e.orders))) (bound.Low (greatest (counters_of association e.orders))) bound.Bound
    (lt-ltb last (greatest (counters_of association e.orders)) (omega (arith, n, l))))

pub low_stands : (q : Queue) (e : EimState) (association last used : ℕ) → IsEim q e → used ≡ greatest (used_counters association q.orders) → last < used → IsEim q (bound_to association last e)
unfolding bound_to
low_stands q e association last used h u l =
    let n : used ≡ greatest (counters_of association e.orders) = u ∙ used_is q e association h in
    subst (IsEim q) (sym (cond-true (nat_lt last (greatest (counters_of association e.orders))) e (record e { bound = Some (record { association = association; last = last }) })
    (lt-ltb last (greatest (counters_of association e.orders)) (omega (arith, n, l))))) h

pub bound_end : (q : Queue) (e : EimState) (association last used : ℕ) → IsEim q e → used ≡ greatest (used_counters association q.orders) → used ≤ last → bound.Bound ≡ bind_end association last e
unfolding bind_end
bound_end q e association last used h u l =
    let n : used ≡ greatest (counters_of association e.orders) = u ∙ used_is q e association h in
    sym (cond-false (nat_lt last (greatest (counters_of association e.orders))) (bound.Low (greatest (counters_of association e.orders))) bound.Bound
    (le-ltb last (greatest (counters_of association e.orders)) (omega (arith, n, l))))

pub bound_stands : (q : Queue) (e : EimState) (association last used : ℕ) → IsEim q e → used ≡ greatest (used_counters association q.orders) → used ≤ last
    → IsEim (record q { bound = Some (record { association = association; last = last }) }) (bound_to association last e)
unfolding bound_to
bound_stands q e association last used h u l =
    let n : used ≡ greatest (counters_of association e.orders) = u ∙ used_is q e association h in
    subst (IsEim (record q { bound = Some (record { association = association; last = last }) }))
    (sym (cond-false (nat_lt last (greatest (counters_of association e.orders))) e (record e { bound = Some (record { association = association; last = last }) })
    (le-ltb last (greatest (counters_of association e.orders)) (omega (arith, n, l)))))
    (record { id_is = h.id_is; eid_is = h.eid_is; bound_is = refl; orders_are = h.orders_are; records_are = h.records_are; refusal_is = h.refusal_is })

-- an order before the first binding
pub unbound_end : (q : Queue) (e : EimState) → IsEim q e → q.bound ≡ None → order_answer.Unbound ≡ order_end e
unfolding order_end
unbound_end q e h b = ap order_end_of (sym b ∙ h.bound_is)

pub unbound_stands : (q : Queue) (e : EimState) (body : Body) → IsEim q e → q.bound ≡ None → IsEim q (ordered body e)
unfolding ordered
unbound_stands q e body h b = subst (λ o. IsEim q (ordered_by o body e)) (sym b ∙ h.bound_is) h

-- an order behind the last counter
pub spent_end : (q : Queue) (e : EimState) (b : Binding) → IsEim q e → q.bound ≡ Some b → b.last == greatest_counter ≡ true → order_answer.CounterSpent ≡ order_end e
unfolding order_end
spent_end q e b h k s = sym (cond-true (b.last == greatest_counter) order_answer.CounterSpent (order_answer.Ordered (b.last + 1)) s) ∙ ap order_end_of (sym k ∙ h.bound_is)

-- the order that goes last
abbrev pub next_order : Binding → Body → Ordered
next_order b body = record { association = b.association; counter = b.last + 1; body = body; skipped = false }

abbrev pub with_order : Binding → Body → EimState → EimState
with_order b body e = record e { bound = Some (record b { last = b.last + 1 }); orders = e.orders ++ next_order b body ∷ [] }

pub spent_stands : (q : Queue) (e : EimState) (b : Binding) (body : Body) → IsEim q e → q.bound ≡ Some b → b.last == greatest_counter ≡ true → IsEim q (ordered body e)
unfolding ordered
spent_stands q e b body h k s =
    subst (λ o. IsEim q (ordered_by o body e)) (sym k ∙ h.bound_is) (subst (IsEim q) (sym (cond-true (b.last == greatest_counter) e (with_order b body e) s)) h)

pub next_end : (q : Queue) (e : EimState) (b : Binding) → IsEim q e → q.bound ≡ Some b → b.last == greatest_counter ≡ false → order_answer.Ordered (b.last + 1) ≡ order_end e
unfolding order_end
next_end q e b h k s = sym (cond-false (b.last == greatest_counter) order_answer.CounterSpent (order_answer.Ordered (b.last + 1)) s) ∙ ap order_end_of (sym k ∙ h.bound_is)

kept_next : (id eid : List ℕ) (received : List PackageResult) (b : Binding) (body : Body)
    → kept_order id eid received (next_order b body) ≡ record { signed = package_of id eid (next_order b body); waits = not (is_recorded b.association (b.last + 1) received) }
unfolding waits
kept_next id eid received b body = refl

more_orders : (q : Queue) (e : EimState) (b : Binding) (body : Body) (o : Order) → IsEim q e → o ≡ kept_order e.id e.eid e.received (next_order b body)
    → IsEim (record q { bound = Some (record b { last = b.last + 1 }); orders = q.orders ++ o ∷ [] }) (with_order b body e)
more_orders q e b body o h is = record {
  id_is = h.id_is;
  eid_is = h.eid_is;
  bound_is = refl;
  orders_are = ap (λ os. os ++ o ∷ []) h.orders_are ∙ ap (λ x. map (kept_order e.id e.eid e.received) e.orders ++ x ∷ []) is ∙ sym (map-append (kept_order e.id e.eid e.received) e.orders (next_order b body ∷ []));
  records_are = h.records_are;
  refusal_is = h.refusal_is;
}

pub next_stands : (q : Queue) (e : EimState) (b : Binding) (body : Body) (known : Bool) → IsEim q e → q.bound ≡ Some b → b.last == greatest_counter ≡ false → known ≡ is_recorded b.association (b.last + 1) e.received
    → IsEim (record q { bound = Some (record b { last = b.last + 1 }); orders = q.orders ++ record { signed = package_of q.id q.eid (next_order b body); waits = not known } ∷ [] }) (ordered body e)
unfolding ordered
next_stands q e b body known h k s is =
    let o : Order = record { signed = package_of q.id q.eid (next_order b body); waits = not known } in
    let its : o ≡ kept_order e.id e.eid e.received (next_order b body) =
    ap (λ i. record { signed = package_of i q.eid (next_order b body); waits = not known }) h.id_is
    ∙ ap (λ i. record { signed = package_of e.id i (next_order b body); waits = not known }) h.eid_is
    ∙ ap (λ w. record { signed = package_of e.id e.eid (next_order b body); waits = not w }) is
    ∙ sym (kept_next e.id e.eid e.received b body) in
    subst (λ p. IsEim (record q { bound = Some (record b { last = b.last + 1 }); orders = q.orders ++ o ∷ [] }) (ordered_by p body e)) (sym k ∙ h.bound_is)
    (subst (IsEim (record q { bound = Some (record b { last = b.last + 1 }); orders = q.orders ++ o ∷ [] })) (sym (cond-false (b.last == greatest_counter) e (with_order b body e) s))
    (more_orders q e b body o h its))

-- the first order that waits, found at its place
found_first : (test : Ordered → Bool) (os : List Ordered) (at : ℕ) (d : Ordered) → at < length os → test (get_or os at d) ≡ true → ((k : ℕ) → k < at → test (get_or os k d) ≡ false)
    → (find test os ≡ Some (get_or os at d)) × (skip_first test os ≡ set os at (record (get_or os at d) { skipped = true }))
unfolding skip_first
found_first test [] at d l e off = absurd (omega (arith, l))
found_first test (o ∷ os) zero d l e off =
    (cond-true (test o) (Some o) (find test os) e, cond-true (test o) (record o { skipped = true } ∷ os) (o ∷ skip_first test os) e)
found_first test (o ∷ os) (suc at) d l e off =
    let here : test o ≡ false = off 0 (omega arith) in
    let rest = found_first test os at d (omega (arith, l)) e (λ k m. off (suc k) (omega (arith, m))) in (
      cond-false (test o) (Some o) (find test os) here ∙ rest.0,
      cond-false (test o) (record o { skipped = true } ∷ os) (o ∷ skip_first test os) here ∙ ap (λ xs. o ∷ xs) rest.1,
    )

none_first : (test : Ordered → Bool) (os : List Ordered) → Every (λ o. test o ≡ false) os → (find test os ≡ None) × (skip_first test os ≡ os)
unfolding skip_first
none_first test [] h = (refl, refl)
none_first test (o ∷ os) h =
    let rest = none_first test os h.1 in
    (cond-false (test o) (Some o) (find test os) h.0 ∙ rest.0, cond-false (test o) (record o { skipped = true } ∷ os) (o ∷ skip_first test os) h.0 ∙ ap (λ xs. o ∷ xs) rest.1)

every_from : {X Y : Type 0} (P : Y → Type 0) (f : X → Y) (xs : List X) → Every P (map f xs) → Every (λ x. P (f x)) xs
every_from P f [] h = tt
every_from P f (x ∷ xs) h = (h.0, every_from P f xs h.1)

some_order : Ordered
some_order = record { association = 0; counter = 0; body = Psmos []; skipped = false }

-- what is found at a place of the queue's orders
pub record IsFound (q : Queue) (e : EimState) (at : ℕ) (k : Order) : Type 0 where
  pub order : Ordered
  pub first : first_waiting e ≡ Some order
  pub kept_is : k ≡ kept_order e.id e.eid e.received order
  pub given_up : set q.orders at (record k { waits = false }) ≡ map (kept_order e.id e.eid e.received) (skip_first (waits e.received) e.orders)

up_waits : (id eid : List ℕ) (received : List PackageResult) (o : Ordered) → record (kept_order id eid received o) { waits = false } ≡ kept_order id eid received (record o { skipped = true })
unfolding waits
up_waits id eid received o = refl

pub found_order : (q : Queue) (e : EimState) (at : ℕ) (k : Order) → IsEim q e → position (λ (o : Order). o.waits) q.orders ≡ Some at → k ≡ get_or q.orders at k → IsFound q e at k
unfolding first_waiting
found_order q e at k h p is =
    let f : Ordered → Order = kept_order e.id e.eid e.received in
    let test : Ordered → Bool = waits e.received in
    let place = position-Some (λ (o : Order). o.waits) (map f e.orders) at (f some_order) (ap (position (λ (o : Order). o.waits)) (sym h.orders_are) ∙ p) in
    let inside : at < length e.orders = (let n = place.0 in let m = length-map e.orders f in omega (arith, n, m)) in
    let o : Ordered = get_or e.orders at some_order in
    let found = found_first test e.orders at some_order inside
    (sym (ap (λ (x : Order). x.waits) (get_or-map f e.orders at some_order (f some_order) inside)) ∙ place.1)
    (λ j l. sym (ap (λ (x : Order). x.waits) (get_or-map f e.orders j some_order (f some_order) (omega (arith, l, inside)))) ∙ place.2 j l) in
    let its : k ≡ f o = is ∙ ap (λ os. get_or os at k) h.orders_are ∙ get_or-map f e.orders at some_order k inside in
    record {
      order = o;
      first = found.0;
      kept_is = its;
      given_up = ap (λ os. set os at (record k { waits = false })) h.orders_are
          ∙ ap (λ (x : Order). set (map f e.orders) at (record x { waits = false })) its
          ∙ ap (set (map f e.orders) at) (up_waits e.id e.eid e.received o)
          ∙ sym (map-set f e.orders at (record o { skipped = true }))
          ∙ ap (map f) (sym found.1);
    }

pub skip_found : (q : Queue) (e : EimState) (at : ℕ) (k : Order) → IsFound q e at k → Some k.signed.«package».counter ≡ skip_end e
unfolding skip_end
skip_found q e at k f = ap (λ (x : Order). Some x.signed.«package».counter) f.kept_is ∙ sym (ap counter_of f.first)

pub skip_stands : (q : Queue) (e : EimState) (at : ℕ) (k : Order) → IsEim q e → IsFound q e at k → IsEim (record q { orders = set q.orders at (record k { waits = false }) }) (skipped e)
unfolding skipped
skip_stands q e at k h f = record {
  id_is = h.id_is;
  eid_is = h.eid_is;
  bound_is = h.bound_is;
  orders_are = f.given_up;
  records_are = h.records_are;
  refusal_is = h.refusal_is;
}

none_waits : (q : Queue) (e : EimState) → IsEim q e → position (λ (o : Order). o.waits) q.orders ≡ None → Every (λ o. waits e.received o ≡ false) e.orders
none_waits q e h p =
    every_from (λ (k : Order). k.waits ≡ false) (kept_order e.id e.eid e.received) e.orders
    (nowhere (λ (o : Order). o.waits) (map (kept_order e.id e.eid e.received) e.orders) (ap (position (λ (o : Order). o.waits)) (sym h.orders_are) ∙ p))

pub none_first_waits : (q : Queue) (e : EimState) → IsEim q e → position (λ (o : Order). o.waits) q.orders ≡ None → first_waiting e ≡ None
unfolding first_waiting
none_first_waits q e h p = (none_first (waits e.received) e.orders (none_waits q e h p)).0

pub skip_none : (q : Queue) (e : EimState) → IsEim q e → position (λ (o : Order). o.waits) q.orders ≡ None → None ≡ skip_end e
unfolding skip_end
skip_none q e h p = sym (ap counter_of (none_first_waits q e h p))

pub skip_none_stands : (q : Queue) (e : EimState) → IsEim q e → position (λ (o : Order). o.waits) q.orders ≡ None → IsEim q (skipped e)
unfolding skipped
skip_none_stands q e h p = record {
  id_is = h.id_is;
  eid_is = h.eid_is;
  bound_is = h.bound_is;
  orders_are = h.orders_are ∙ ap (map (kept_order e.id e.eid e.received)) (sym (none_first (waits e.received) e.orders (none_waits q e h p)).1);
  records_are = h.records_are;
  refusal_is = h.refusal_is;
}

-- a poll
pub other_poll : (eid : List ℕ) (q : Queue) (e : EimState) → IsEim q e → same eid q.eid ≡ false → answer.Reply to_ipa.Nothing ≡ message_end (to_eim.Poll eid) e
unfolding message_end
other_poll eid q e h s =
    sym (ap (λ (m : ToIpa). answer.Reply m) (cond-false (same eid e.eid) (answer_with e.id e.eid (first_waiting e)) to_ipa.Nothing (ap (same eid) (sym h.eid_is) ∙ s)))

own_poll : (eid : List ℕ) (q : Queue) (e : EimState) → IsEim q e → same eid q.eid ≡ true → (o : Option Ordered) → first_waiting e ≡ o → answer.Reply (answer_with e.id e.eid o) ≡ message_end (to_eim.Poll eid) e
unfolding message_end
own_poll eid q e h s o f =
    ap (λ (x : Option Ordered). answer.Reply (answer_with e.id e.eid x)) (sym f)
    ∙ sym (ap (λ (m : ToIpa). answer.Reply m) (cond-true (same eid e.eid) (answer_with e.id e.eid (first_waiting e)) to_ipa.Nothing (ap (same eid) (sym h.eid_is) ∙ s)))

pub empty_poll : (eid : List ℕ) (q : Queue) (e : EimState) → IsEim q e → same eid q.eid ≡ true → position (λ (o : Order). o.waits) q.orders ≡ None → answer.Reply to_ipa.Nothing ≡ message_end (to_eim.Poll eid) e
empty_poll eid q e h s p = own_poll eid q e h s None (none_first_waits q e h p)

pub served_poll : (eid : List ℕ) (q : Queue) (e : EimState) (at : ℕ) (k : Order) → IsEim q e → same eid q.eid ≡ true → IsFound q e at k → answer.Reply (to_ipa.Package (signed k.signed)) ≡ message_end (to_eim.Poll eid) e
served_poll eid q e at k h s f = ap (λ (x : Order). answer.Reply (to_ipa.Package (signed x.signed))) f.kept_is ∙ own_poll eid q e h s (Some f.order) f.first

-- a result
still_waits : (s known its : Bool) → ((not s && not known) && not its) ≡ (not s && not (its || known))
still_waits true known its = refl
still_waits false true true = refl
still_waits false true false = refl
still_waits false false true = refl
still_waits false false false = refl

settled_one : (id eid : List ℕ) (received : List PackageResult) (r : PackageResult) (o : Ordered)
    → settled r.association r.counter (kept_order id eid received o) ≡ kept_order id eid (r ∷ received) o
unfolding waits
settled_one id eid received r o =
    ap (λ w. record { signed = package_of id eid o; waits = w }) (still_waits o.skipped (is_recorded o.association o.counter received) (is_of o.association o.counter r))

settled_all : (id eid : List ℕ) (received : List PackageResult) (r : PackageResult) (os : List Ordered)
    → map (settled r.association r.counter) (map (kept_order id eid received) os) ≡ map (kept_order id eid (r ∷ received)) os
settled_all id eid received r [] = refl
settled_all id eid received r (o ∷ os) =
    ap (λ x. x ∷ map (settled r.association r.counter) (map (kept_order id eid received) os)) (settled_one id eid received r o)
    ∙ ap (λ xs. kept_order id eid (r ∷ received) o ∷ xs) (settled_all id eid received r os)

pub other_result : (r : PackageResult) (q : Queue) (e : EimState) → IsEim q e → same r.eim q.id ≡ false → answer.Silent ≡ message_end (to_eim.Result r) e
unfolding message_end
other_result r q e h s = sym (cond-false (same r.eim e.id) (answer.Reply (to_ipa.Ack r.seq)) answer.Silent (ap (same r.eim) (sym h.id_is) ∙ s))

pub other_heard : (r : PackageResult) (q : Queue) (e : EimState) → IsEim q e → same r.eim q.id ≡ false → IsEim q (heard (to_eim.Result r) e)
unfolding heard
other_heard r q e h s = subst (IsEim q) (sym (cond-false (same r.eim e.id) (record e { received = r ∷ e.received }) e (ap (same r.eim) (sym h.id_is) ∙ s))) h

pub own_result : (r : PackageResult) (q : Queue) (e : EimState) → IsEim q e → same r.eim q.id ≡ true → answer.Reply (to_ipa.Ack r.seq) ≡ message_end (to_eim.Result r) e
unfolding message_end
own_result r q e h s = sym (cond-true (same r.eim e.id) (answer.Reply (to_ipa.Ack r.seq)) answer.Silent (ap (same r.eim) (sym h.id_is) ∙ s))

pub own_heard : (r : PackageResult) (q : Queue) (e : EimState) (rows : List PackageResult) (os : List Order) → IsEim q e → same r.eim q.id ≡ true → AreRecords rows (r ∷ e.received) → os ≡ map (settled r.association r.counter) q.orders
    → IsEim (record q { records = rows; orders = os }) (heard (to_eim.Result r) e)
unfolding heard
own_heard r q e rows os h s rs o =
    subst (IsEim (record q { records = rows; orders = os })) (sym (cond-true (same r.eim e.id) (record e { received = r ∷ e.received }) e (ap (same r.eim) (sym h.id_is) ∙ s)))
    (record {
      id_is = h.id_is;
      eid_is = h.eid_is;
      bound_is = h.bound_is;
      orders_are = o ∙ ap (map (settled r.association r.counter)) h.orders_are ∙ settled_all e.id e.eid e.received r e.orders;
      records_are = rs;
      refusal_is = h.refusal_is;
    })

pub refusal_heard : (f : Refused) (q : Queue) (e : EimState) → IsEim q e → IsEim (record q { refusal = Some f }) (heard (to_eim.Refused f) e)
unfolding heard
refusal_heard f q e h = record { id_is = h.id_is; eid_is = h.eid_is; bound_is = h.bound_is; orders_are = h.orders_are; records_are = h.records_are; refusal_is = refl }

pub refusal_end : (f : Refused) (e : EimState) → answer.Silent ≡ message_end (to_eim.Refused f) e
unfolding message_end
refusal_end f e = refl

pub poll_heard : (eid : List ℕ) (q : Queue) (e : EimState) → IsEim q e → IsEim q (heard (to_eim.Poll eid) e)
unfolding heard
poll_heard eid q e h = h

pub below_spent : (n : ℕ) → n ≤ greatest_counter - 1 → n == greatest_counter ≡ false
below_spent n l =
    elim (n == greatest_counter) as (λ b. n == greatest_counter ≡ b → n == greatest_counter ≡ false) [
      | true ↦ λ e. let k = eqb-true n greatest_counter e in absurd (omega (arith, k, l))
      | false ↦ λ e. e
    ] refl

pub served_then : (r x y : MessageEnd) → x ≡ y → IfServed r (r ≡ x) → IfServed r (r ≡ y)
served_then (answer.Reply m) x y e h = h ∙ e
served_then answer.Silent x y e h = h ∙ e
served_then answer.NoMemory x y e h = tt

pub served_all : (r : MessageEnd) (P : Type 0) → P → IfServed r P
served_all (answer.Reply m) P p = p
served_all answer.Silent P p = p
served_all answer.NoMemory P p = tt

-- packages stay in range
pub settled_fit : (association counter : ℕ) (os : List Order) → Every (λ o. IsSigned o.signed) os → Every (λ o. IsSigned o.signed) (map (settled association counter) os)
settled_fit association counter [] h = tt
settled_fit association counter (o ∷ os) h = (h.0, settled_fit association counter os h.1)

given_up_fit : (at : ℕ) (os : List Order) (o : Order) → IsSigned o.signed → Every (λ x. IsSigned x.signed) os → Every (λ x. IsSigned x.signed) (set os at o)
given_up_fit at [] o f h = tt
given_up_fit zero (x ∷ os) o f h = (f, h.1)
given_up_fit (suc at) (x ∷ os) o f h = (h.0, given_up_fit at os o f h.1)

pub fits_at : (os : List Order) (at : ℕ) (d : Order) → at < length os → Every (λ o. IsSigned o.signed) os → IsSigned (get_or os at d).signed
fits_at [] at d l h = absurd (omega (arith, l))
fits_at (o ∷ os) zero d l h = h.0
fits_at (o ∷ os) (suc at) d l h = fits_at os at d (omega (arith, l)) h.1

-- what a queue keeps true of its orders
abbrev pub AreInOrder : Option Binding → List Order → Type 0
AreInOrder b os = Every (λ o. IsSigned o.signed) os × IfSome b (λ b. greatest (used_counters b.association os) ≤ b.last)

same_keys : (b : Option Binding) (os ps : List Order) → map order_key os ≡ map order_key ps → IfSome b (λ b. greatest (used_counters b.association os) ≤ b.last) → IfSome b (λ b. greatest (used_counters b.association ps) ≤ b.last)
same_keys None os ps e h = h
same_keys (Some b) os ps e h = subst (λ n. n ≤ b.last) (ap greatest (same_used b.association os ps e)) h

pub settled_in_order : (association counter : ℕ) (b : Option Binding) (os ps : List Order) → ps ≡ map (settled association counter) os → AreInOrder b os → AreInOrder b ps
settled_in_order association counter b os ps e h =
    subst (AreInOrder b) (sym e) (settled_fit association counter os h.0, same_keys b os (map (settled association counter) os) (sym (settled_keys association counter os)) h.1)

pub given_up_in_order : (at : ℕ) (b : Option Binding) (os ps : List Order) (o : Order) → at < length os → get_or os at o ≡ o → ps ≡ set os at (record o { waits = false }) → AreInOrder b os → AreInOrder b ps
given_up_in_order at b os ps o l is e h =
    let up : Order = record o { waits = false } in
    let fit : IsSigned o.signed = subst (λ (x : Order). IsSigned x.signed) is (fits_at os at o l h.0) in
    subst (AreInOrder b) (sym e) (given_up_fit at os up fit h.0, same_keys b os (set os at up) (sym (given_up_keys at os up o (ap order_key (sym is)))) h.1)

-- the counter that the queue goes on behind
pub behind_orders : (o : Option Binding) (b : Binding) (os : List Order) → o ≡ Some b → IfSome o (λ b. greatest (used_counters b.association os) ≤ b.last) → greatest (used_counters b.association os) ≤ b.last
behind_orders o b os e h = subst (λ (x : Option Binding). IfSome x (λ b. greatest (used_counters b.association os) ≤ b.last)) e h
