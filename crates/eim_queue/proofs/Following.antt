-- Orders are found after each change as before.
use Rattle.std.proofs.Common.{◌≡◌, ℕ, ◌+◌, ◌≤◌, ◌<◌, suc, zero, Bool, true, false, not, ◌&&◌, ◌||◌, cond, List, [], ◌∷◌, ◌++◌, length, map, take, drop, refl, ◌∙◌, ap, sym, subst, arith, Option, None, Some, nat_lt, get_or, set}
use Rattle.std.specs.Prelude.{◌==◌, max, filter, position, slice_get}
use Rattle.std.specs.List.{list_any, position_or_len}
use Rattle.std.specs.Option.{is_some, unwrap_or}
use Rattle.std.specs.Ordering.{nat_cmp}
use Rattle.std.specs.Map.{lookup}
use Rattle.std.specs.BTreeMap.{BTreeMap, get, is_at}
use Rattle.std.proofs.lemmas.Bool.{cond-true, cond-false, eqb-true, lt-ltb, le-ltb, ltb-true, ltb-false, or_from, false≢true, false_from_ne_true}
use Rattle.std.proofs.lemmas.List.{map-append, length-map, take_all}
use Rattle.small_card.specs.Lists.{Every, greatest}
use Rattle.esipa_codec.specs.Records.{Key}
use Rattle.eim_queue.specs.Places.{is_key, place_in, ArePlaces}
use Rattle.eim_queue.specs.Orders.{order_key, used_counters, settled, AreOrders}
use Rattle.eim_queue.specs.declared.orders.Order.{Order}
use Rattle.eim_queue.proofs.Finding.{Keeps, places_stay, places_more, alone, absent, flip_key}

abbrev counters : List Order → List ℕ
counters os = map (λ o. o.signed.«package».counter) os

abbrev key_counters : ℕ → List Key → List ℕ
key_counters association ks = map (λ k. k.1) (filter (λ k. k.0 == association) ks)

on_key : (b : Bool) (o : Order) (os : List Order) (ks : List Key) → counters os ≡ map (λ k. k.1) ks → counters (cond b (o ∷ os) os) ≡ map (λ k. k.1) (cond b (order_key o ∷ ks) ks)
on_key true o os ks e = ap (λ ns. o.signed.«package».counter ∷ ns) e
on_key false o os ks e = e

-- the counters of an association are told by the keys alone
used_by_keys : (association : ℕ) (os : List Order) → used_counters association os ≡ key_counters association (map order_key os)
unfolding used_counters
used_by_keys association [] = refl
used_by_keys association (o ∷ os) =
    on_key (o.signed.«package».association == association) o (filter (λ (x : Order). x.signed.«package».association == association) os) (filter (λ (k : Key). k.0 == association) (map order_key os))
    (used_by_keys association os)

pub same_used : (association : ℕ) (os ps : List Order) → map order_key os ≡ map order_key ps → used_counters association os ≡ used_counters association ps
same_used association os ps e = used_by_keys association os ∙ ap (key_counters association) e ∙ sym (used_by_keys association ps)

none_some : {X : Type 0} (x : X) → None ≡ Some x → ⊥
none_some x q = false≢true (ap is_some q)

pub no_orders : (os : List Order) (kept : BTreeMap Key ℕ) (counted : BTreeMap ℕ ℕ) → os ≡ [] → counted.entries ≡ [] → AreOrders os 0 kept counted
unfolding used_counters
no_orders os kept counted none e =
    subst (λ (xs : List Order). AreOrders xs 0 kept counted) (sym none)
    (record {
      places = λ at k h. absurd (none_some k h);
      used = λ a. ap (λ (es : List (ℕ × ℕ)). unwrap_or (lookup (is_at (nat_cmp a)) es) 0) e;
      inside = omega arith;
      passed = tt;
    })

-- orders with the same keys
pub orders_stay : (os ps : List Order) (first : ℕ) (kept : BTreeMap Key ℕ) (counted : BTreeMap ℕ ℕ)
    → AreOrders os first kept counted → map order_key ps ≡ map order_key os → Every (λ o. o.waits ≡ false) (take first ps) → AreOrders ps first kept counted
orders_stay os ps first kept counted h e off = record {
  places = subst (ArePlaces kept) (sym e) h.places;
  used = λ a. h.used a ∙ ap greatest (same_used a os ps (sym e));
  inside = omega (arith, h.inside, length-map os order_key, length-map ps order_key, ap (λ (ks : List Key). length ks) e);
  passed = off;
}

-- one order is given up
pub given_up_passed : (n at : ℕ) (os : List Order) (o : Order) → o.waits ≡ false → Every (λ x. x.waits ≡ false) (take n os) → Every (λ x. x.waits ≡ false) (take n (set os at o))
given_up_passed zero at [] o e h = h
given_up_passed (suc n) at [] o e h = h
given_up_passed zero zero (x ∷ os) o e h = tt
given_up_passed zero (suc at) (x ∷ os) o e h = tt
given_up_passed (suc n) zero (x ∷ os) o e h = (e, h.1)
given_up_passed (suc n) (suc at) (x ∷ os) o e h = (h.0, given_up_passed n at os o e h.1)

pub given_up_keys : (at : ℕ) (os : List Order) (o d : Order) → order_key o ≡ order_key (get_or os at d) → map order_key (set os at o) ≡ map order_key os
given_up_keys at [] o d e = refl
given_up_keys zero (x ∷ os) o d e = ap (λ k. k ∷ map order_key os) e
given_up_keys (suc at) (x ∷ os) o d e = ap (λ ks. order_key x ∷ ks) (given_up_keys at os o d e)

-- the orders of a key are settled
pub settled_keys : (association counter : ℕ) (os : List Order) → map order_key (map (settled association counter) os) ≡ map order_key os
settled_keys association counter [] = refl
settled_keys association counter (o ∷ os) = ap (λ ks. order_key o ∷ ks) (settled_keys association counter os)

settled_passed : (association counter n : ℕ) (os : List Order) → Every (λ o. o.waits ≡ false) (take n os) → Every (λ o. o.waits ≡ false) (take n (map (settled association counter) os))
settled_passed association counter zero [] h = h
settled_passed association counter (suc n) [] h = h
settled_passed association counter zero (o ∷ os) h = tt
settled_passed association counter (suc n) (o ∷ os) h =
    (ap (λ w. w && not (association == o.signed.«package».association && counter == o.signed.«package».counter)) h.0, settled_passed association counter n os h.1)

pub orders_settled : (association counter : ℕ) (os ps : List Order) (first : ℕ) (kept : BTreeMap Key ℕ) (counted : BTreeMap ℕ ℕ)
    → AreOrders os first kept counted → ps ≡ map (settled association counter) os → AreOrders ps first kept counted
orders_settled association counter os ps first kept counted h e =
    subst (λ (xs : List Order). AreOrders xs first kept counted) (sym e)
    (orders_stay os (map (settled association counter) os) first kept counted h (settled_keys association counter os) (settled_passed association counter first os h.passed))

still : (w : Bool) → w && true ≡ w
still true = refl
still false = refl

other_settled : (association counter : ℕ) (o : Order) → is_key association counter (order_key o) ≡ false → settled association counter o ≡ o
other_settled association counter o e =
    ap (λ b. record o { waits = o.waits && not b }) (flip_key association counter (order_key o) ∙ e)
    ∙ ap (λ w. record o { waits = w }) (still o.waits)

map_none : {X : Type 0} (g : X → X) (xs : List X) (d : X) → ((i : ℕ) → i < length xs → g (get_or xs i d) ≡ get_or xs i d) → map g xs ≡ xs
map_none g [] d h = refl
map_none g (x ∷ xs) d h = ap (λ y. y ∷ map g xs) (h 0 (omega arith)) ∙ ap (λ ys. x ∷ ys) (map_none g xs d (λ i m. h (suc i) (omega (arith, m))))

map_at : {X : Type 0} (g : X → X) (xs : List X) (at : ℕ) (d : X) → at < length xs → ((i : ℕ) → i < length xs → (i ≡ at → ⊥) → g (get_or xs i d) ≡ get_or xs i d) → set xs at (g (get_or xs at d)) ≡ map g xs
map_at g [] at d l h = absurd (omega (arith, l))
map_at g (x ∷ xs) zero d l h = ap (λ ys. g x ∷ ys) (sym (map_none g xs d (λ i m. h (suc i) (omega (arith, m)) (λ e. omega (arith, e)))))
map_at g (x ∷ xs) (suc at) d l h =
    ap (λ y. y ∷ set xs at (g (get_or xs at d))) (sym (h 0 (omega arith) (λ e. omega (arith, e))))
    ∙ ap (λ ys. g x ∷ ys) (map_at g xs at d (omega (arith, l)) (λ i m n. h (suc i) (omega (arith, m)) (λ e. n (omega (arith, e)))))

map_all : {X : Type 0} (g : X → X) (xs : List X) → ((i : ℕ) (d : X) → i < length xs → g (get_or xs i d) ≡ get_or xs i d) → map g xs ≡ xs
map_all g [] h = refl
map_all g (x ∷ xs) h = map_none g (x ∷ xs) x (λ i l. h i x l)

pub settled_at : (association counter : ℕ) (os : List Order) (at : ℕ) (d : Order) (kept : BTreeMap Key ℕ)
    → ArePlaces kept (map order_key os) → place_in kept (association, counter) ≡ Some at → at < length os → set os at (settled association counter (get_or os at d)) ≡ map (settled association counter) os
settled_at association counter os at d kept h p l =
    map_at (settled association counter) os at d l
    (λ i m n. other_settled association counter (get_or os i d) (alone order_key kept association counter os at i d h p m n))

pub settled_beyond : (association counter : ℕ) (os : List Order) (at : ℕ) (kept : BTreeMap Key ℕ)
    → ArePlaces kept (map order_key os) → place_in kept (association, counter) ≡ Some at → length os ≤ at → os ≡ map (settled association counter) os
settled_beyond association counter os at kept h p l =
    sym (map_all (settled association counter) os (λ i d m. other_settled association counter (get_or os i d) (alone order_key kept association counter os at i d h p m (λ e. omega (arith, e, l, m)))))

pub settled_nowhere : (association counter : ℕ) (os : List Order) (kept : BTreeMap Key ℕ)
    → ArePlaces kept (map order_key os) → place_in kept (association, counter) ≡ None → os ≡ map (settled association counter) os
settled_nowhere association counter os kept h p =
    sym (map_all (settled association counter) os (λ i d m. other_settled association counter (get_or os i d) (absent order_key kept association counter os i d h p m)))

-- one more order
not_used : (association counter : ℕ) (os : List Order) → greatest (used_counters association os) < counter → list_any (is_key association counter) (map order_key os) ≡ false
unfolding used_counters
not_used association counter [] l = refl
not_used association counter (o ∷ os) l =
    let rest : List Order = filter (λ (x : Order). x.signed.«package».association == association) os in
    elim (o.signed.«package».association == association) as (λ b. greatest (counters (cond b (o ∷ rest) rest)) < counter → (b && o.signed.«package».counter == counter) || list_any (is_key association counter) (map order_key os) ≡ false) [
      | true ↦ λ m. or_from (o.signed.«package».counter == counter) (list_any (is_key association counter) (map order_key os))
          (false_from_ne_true (o.signed.«package».counter == counter) (λ e. omega (arith, m, eqb-true o.signed.«package».counter counter e)))
          (not_used association counter os (omega (arith, m)))
      | false ↦ λ m. not_used association counter os m
    ] l

max_into : (b : Bool) (m g n : ℕ) → max m (cond b (max g n) g) ≡ cond b (max (max m g) n) (max m g)
max_into true m g n = omega arith
max_into false m g n = refl

pub used_more : (association : ℕ) (os : List Order) (o : Order)
    → greatest (used_counters association (os ++ o ∷ [])) ≡ cond (o.signed.«package».association == association) (max (greatest (used_counters association os)) o.signed.«package».counter) (greatest (used_counters association os))
unfolding used_counters
used_more association [] o =
    elim (o.signed.«package».association == association) as (λ b. greatest (counters (cond b (o ∷ []) [])) ≡ cond b (max 0 o.signed.«package».counter) 0) [ true ↦ omega arith | false ↦ refl ]
used_more association (x ∷ os) o =
    let t : Bool = o.signed.«package».association == association in
    let g : ℕ = greatest (used_counters association os) in
    let rest : List Order = filter (λ (y : Order). y.signed.«package».association == association) os in
    let more : List Order = filter (λ (y : Order). y.signed.«package».association == association) (os ++ o ∷ []) in
    elim (x.signed.«package».association == association) as (λ b. greatest (counters (cond b (x ∷ more) more)) ≡ cond t (max (greatest (counters (cond b (x ∷ rest) rest))) o.signed.«package».counter) (greatest (counters (cond b (x ∷ rest) rest)))) [
      | true ↦ ap (max x.signed.«package».counter) (used_more association os o) ∙ max_into t x.signed.«package».counter g o.signed.«package».counter
      | false ↦ used_more association os o
    ]

counted_more : (b : Bool) (g n : ℕ) → (b ≡ true → g < n) → cond b n g ≡ cond b (max g n) g
counted_more true g n h = omega (arith, h refl)
counted_more false g n h = refl

take_pushed : {X : Type 0} (n : ℕ) (xs : List X) (y : X) → n ≤ length xs → take n (xs ++ y ∷ []) ≡ take n xs
take_pushed zero [] y l = refl
take_pushed zero (x ∷ xs) y l = refl
take_pushed (suc n) [] y l = absurd (omega (arith, l))
take_pushed (suc n) (x ∷ xs) y l = ap (λ ys. x ∷ ys) (take_pushed n xs y (omega (arith, l)))

pub unpushed : {X : Type 0} (n : ℕ) (xs : List X) (y : X) → n ≡ length xs → take n (xs ++ y ∷ []) ≡ xs
unpushed n xs y e = take_pushed n xs y (omega (arith, e)) ∙ take_all n xs (omega (arith, e))

length_pushed : {X : Type 0} (xs : List X) (y : X) → length (xs ++ y ∷ []) ≡ length xs + 1
length_pushed [] y = refl
length_pushed (x ∷ xs) y = omega (arith, length_pushed xs y)

-- the counters that are kept, with one more
pub record Counts (old new : BTreeMap ℕ ℕ) (association counter : ℕ) : Type 0 where
  pub counters : (a : ℕ) → unwrap_or (get nat_cmp new a) 0 ≡ cond (association == a) counter (unwrap_or (get nat_cmp old a) 0)

pub orders_more : (os : List Order) (o : Order) (first : ℕ) (kept more : BTreeMap Key ℕ) (counted recounted : BTreeMap ℕ ℕ)
    → AreOrders os first kept counted
    → greatest (used_counters o.signed.«package».association os) < o.signed.«package».counter
    → Keeps kept more o.signed.«package».association o.signed.«package».counter (length os)
    → Counts counted recounted o.signed.«package».association o.signed.«package».counter
    → AreOrders (os ++ o ∷ []) first more recounted
orders_more os o first kept more counted recounted h l p c =
    let off = not_used o.signed.«package».association o.signed.«package».counter os l in
    record {
      places = subst (ArePlaces more) (sym (map-append order_key os (o ∷ [])))
          (places_more kept more (map order_key os) (order_key o) h.places off
          (subst (Keeps kept more o.signed.«package».association o.signed.«package».counter) (sym (length-map os order_key)) p));
      used = λ a.
          c.counters a
          ∙ ap (λ g. cond (o.signed.«package».association == a) o.signed.«package».counter g) (h.used a)
          ∙ counted_more (o.signed.«package».association == a) (greatest (used_counters a os)) o.signed.«package».counter
          (λ e. subst (λ n. greatest (used_counters n os) < o.signed.«package».counter) (eqb-true o.signed.«package».association a e) l)
          ∙ sym (used_more a os o);
      inside = omega (arith, h.inside, length_pushed os o);
      passed = subst (Every (λ (x : Order). x.waits ≡ false)) (sym (take_pushed first os o h.inside)) h.passed;
    }

-- a place or a counter is kept in vain
pub orders_unpushed : (os : List Order) (o : Order) (first : ℕ) (kept more : BTreeMap Key ℕ) (counted same_counted : BTreeMap ℕ ℕ)
    → AreOrders os first kept counted
    → greatest (used_counters o.signed.«package».association os) < o.signed.«package».counter
    → Keeps kept more o.signed.«package».association o.signed.«package».counter (length os)
    → ((a : ℕ) → get nat_cmp same_counted a ≡ get nat_cmp counted a)
    → AreOrders os first more same_counted
orders_unpushed os o first kept more counted same_counted h l p c = record {
  places = places_stay kept more o.signed.«package».association o.signed.«package».counter (length os) (map order_key os) h.places
      (not_used o.signed.«package».association o.signed.«package».counter os l) p;
  used = λ a. ap (λ n. unwrap_or n 0) (c a) ∙ h.used a;
  inside = h.inside;
  passed = h.passed;
}

-- the first that waits
place_parts : {X : Type 0} (t : X → Bool) (xs : List X) (p : ℕ) → position t xs ≡ Some p → (position_or_len t xs ≡ p) × (p < length xs)
place_parts t xs p e =
    elim (nat_lt (position_or_len t xs) (length xs)) as (λ b. nat_lt (position_or_len t xs) (length xs) ≡ b → cond {A = Option ℕ} b (Some (position_or_len t xs)) None ≡ Some p → (position_or_len t xs ≡ p) × (p < length xs)) [
      | true ↦ λ l k. let n : position_or_len t xs ≡ p = ap (λ o. unwrap_or o 0) k in (n, omega (arith, n, ltb-true (position_or_len t xs) (length xs) l))
      | false ↦ λ l k. absurd (false≢true (ap is_some k))
    ] refl e

place_none : {X : Type 0} (t : X → Bool) (xs : List X) → position t xs ≡ None → length xs ≤ position_or_len t xs
place_none t xs e =
    elim (nat_lt (position_or_len t xs) (length xs)) as (λ b. nat_lt (position_or_len t xs) (length xs) ≡ b → cond {A = Option ℕ} b (Some (position_or_len t xs)) None ≡ None → length xs ≤ position_or_len t xs) [
      | true ↦ λ l k. absurd (false≢true (sym (ap is_some k)))
      | false ↦ λ l k. ltb-false (position_or_len t xs) (length xs) l
    ] refl e

place_from : {X : Type 0} (t : X → Bool) (n : ℕ) (xs : List X) → n ≤ length xs → Every (λ x. t x ≡ false) (take n xs) → position_or_len t xs ≡ n + position_or_len t (drop n xs)
place_from t zero [] l h = refl
place_from t zero (x ∷ xs) l h = omega arith
place_from t (suc n) [] l h = absurd (omega (arith, l))
place_from t (suc n) (x ∷ xs) l h =
    let rest = place_from t n xs (omega (arith, l)) h.1 in
    cond-true (not (t x)) (1 + position_or_len t xs) 0 (ap not h.0) ∙ omega (arith, rest)

length_drop : {X : Type 0} (n : ℕ) (xs : List X) → n ≤ length xs → n + length (drop n xs) ≡ length xs
length_drop zero [] l = refl
length_drop zero (x ∷ xs) l = omega arith
length_drop (suc n) [] l = absurd (omega (arith, l))
length_drop (suc n) (x ∷ xs) l = omega (arith, length_drop n xs (omega (arith, l)))

pub next_there : {X : Type 0} (t : X → Bool) (n p : ℕ) (xs : List X) → n ≤ length xs → Every (λ x. t x ≡ false) (take n xs) → position t (drop n xs) ≡ Some p → Some (n + p) ≡ position t xs
next_there t n p xs l h e =
    let k = place_parts t (drop n xs) p e in
    let at = place_from t n xs l h in
    let all = length_drop n xs l in
    let is : position_or_len t xs ≡ n + p = omega (arith, at, k.0) in
    sym (cond-true (nat_lt (position_or_len t xs) (length xs)) (Some (position_or_len t xs)) None (lt-ltb (position_or_len t xs) (length xs) (omega (arith, is, k.1, all))) ∙ ap (λ m. Some m) is)

pub next_none : {X : Type 0} (t : X → Bool) (n : ℕ) (xs : List X) → n ≤ length xs → Every (λ x. t x ≡ false) (take n xs) → position t (drop n xs) ≡ None → None ≡ position t xs
next_none t n xs l h e =
    let k = place_none t (drop n xs) e in
    sym (cond-false (nat_lt (position_or_len t xs) (length xs)) (Some (position_or_len t xs)) None (le-ltb (position_or_len t xs) (length xs) (omega (arith, k, place_from t n xs l h, length_drop n xs l))))

passed_before : {X : Type 0} (t : X → Bool) (n : ℕ) (xs : List X) → n ≤ position_or_len t xs → Every (λ x. t x ≡ false) (take n xs)
passed_before t zero [] l = tt
passed_before t (suc n) [] l = tt
passed_before t zero (x ∷ xs) l = tt
passed_before t (suc n) (x ∷ xs) l =
    elim (t x) as (λ b. t x ≡ b → suc n ≤ cond (not b) (1 + position_or_len t xs) 0 → (t x ≡ false) × Every (λ y. t y ≡ false) (take n xs)) [
      | true ↦ λ e m. absurd (omega (arith, m))
      | false ↦ λ e m. (e, passed_before t n xs (omega (arith, m)))
    ] refl l

place_few : {X : Type 0} (t : X → Bool) (xs : List X) → position_or_len t xs ≤ length xs
place_few t [] = omega arith
place_few t (x ∷ xs) =
    elim (t x) as (λ b. cond (not b) (1 + position_or_len t xs) 0 ≤ suc (length xs)) [ true ↦ omega arith | false ↦ omega (arith, place_few t xs) ]

first_place : {X : Type 0} (t : X → Bool) (xs : List X) → unwrap_or (position t xs) (length xs) ≡ position_or_len t xs
first_place t xs =
    elim (nat_lt (position_or_len t xs) (length xs)) as (λ b. nat_lt (position_or_len t xs) (length xs) ≡ b → unwrap_or (cond {A = Option ℕ} b (Some (position_or_len t xs)) None) (length xs) ≡ position_or_len t xs) [
      | true ↦ λ l. refl
      | false ↦ λ l. omega (arith, ltb-false (position_or_len t xs) (length xs) l, place_few t xs)
    ] refl

first_lt : {X : Type 0} (t : X → Bool) (xs : List X) → nat_lt (position_or_len t xs) (length xs) ≡ list_any t xs
first_lt t [] = refl
first_lt t (x ∷ xs) =
    elim (t x) as (λ b. nat_lt (cond (not b) (1 + position_or_len t xs) 0) (suc (length xs)) ≡ b || list_any t xs) [
      | true ↦ lt-ltb 0 (suc (length xs)) (omega arith)
      | false ↦ less_more (position_or_len t xs) (length xs) ∙ first_lt t xs
    ] where
      less_more : (m n : ℕ) → nat_lt (1 + m) (suc n) ≡ nat_lt m n
      less_more m n = elim (nat_lt m n) as (λ b. nat_lt m n ≡ b → nat_lt (1 + m) (suc n) ≡ b) [
        | true ↦ λ e. lt-ltb (1 + m) (suc n) (omega (arith, ltb-true m n e))
        | false ↦ λ e. le-ltb (1 + m) (suc n) (omega (arith, ltb-false m n e))
      ] refl

some_of : (b : Bool) (n : ℕ) → is_some (cond {A = Option ℕ} b (Some n) None) ≡ b
some_of true n = refl
some_of false n = refl

-- something passes where there is a first place
pub some_place : {X : Type 0} (t : X → Bool) (xs : List X) → is_some (position t xs) ≡ list_any t xs
some_place t xs = some_of (nat_lt (position_or_len t xs) (length xs)) (position_or_len t xs) ∙ first_lt t xs

-- the next look begins at the first that waits
pub orders_from : (os : List Order) (first next : ℕ) (kept : BTreeMap Key ℕ) (counted : BTreeMap ℕ ℕ)
    → AreOrders os first kept counted → next ≡ unwrap_or (position (λ o. o.waits) os) (length os) → AreOrders os next kept counted
orders_from os first next kept counted h e =
    let t : Order → Bool = λ o. o.waits in
    let n : next ≡ position_or_len t os = e ∙ first_place t os in
    record {
      places = h.places;
      used = h.used;
      inside = omega (arith, n, place_few t os);
      passed = passed_before t next os (omega (arith, n));
    }

-- counters go on behind those of the orders
still_below : (b : Bool) (g n m : ℕ) → g ≤ n → m ≤ n + 1 → cond b (max g m) g ≤ n + 1
still_below true g n m h k = omega (arith, h, k)
still_below false g n m h k = omega (arith, h)

pub goes_on_behind : (association n : ℕ) (os : List Order) (o : Order) → greatest (used_counters association os) ≤ n → o.signed.«package».counter ≤ n + 1 → greatest (used_counters association (os ++ o ∷ [])) ≤ n + 1
goes_on_behind association n os o h k =
    subst (λ m. m ≤ n + 1) (sym (used_more association os o))
    (still_below (o.signed.«package».association == association) (greatest (used_counters association os)) n o.signed.«package».counter h k)

-- the order at the first place
pub record IsThere {X : Type 0} (xs : List X) (at : ℕ) : Type 0 where
  pub it : X
  pub inside : at < length xs
  pub shown : slice_get xs at ≡ Some it
  pub got : (d : X) → get_or xs at d ≡ it

is_there : {X : Type 0} (xs : List X) (at : ℕ) → at < length xs → IsThere xs at
is_there [] at l = absurd (omega (arith, l))
is_there (x ∷ xs) zero l = record { it = x; inside = l; shown = refl; got = λ d. refl }
is_there (x ∷ xs) (suc at) l = let rest = is_there xs at (omega (arith, l)) in record { it = rest.it; inside = l; shown = rest.shown; got = rest.got }

pub first_there : {X : Type 0} (t : X → Bool) (xs : List X) (at : ℕ) → position t xs ≡ Some at → IsThere xs at
first_there t xs at e = is_there xs at (place_parts t xs at e).1
