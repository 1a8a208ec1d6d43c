-- Seats that are given one after the other: first those of the results that stay, then those of the new ones.
use Rattle.std.proofs.Common.{◌≡◌, ◌⊎◌, inl, inr, ℕ, zero, suc, ◌+◌, ◌<◌, ◌≤◌, Bool, true, false, cond, List, [], ◌∷◌, ◌++◌, length, take, drop, set, refl, sym, ◌∙◌, ap, subst, arith, length-append, append_assoc}
use Rattle.std.specs.Prelude.{◌≢◌, ◌==◌, ◌||◌, not, nat_le, nat_lt, Option, Some, None, position, slice_get, if◌then◌else◌}
use Rattle.std.specs.List.{list_any, position_or_len}
use Rattle.std.proofs.lemmas.Bool.{eq-eqb, eqb-true, or_cases, le-leb, lt-leb, ltb-false, cases_eq}
use Rattle.std.proofs.lemmas.List.{get_or-set_same, get_or-set_other, append-nil, length-take-le, length-drop, drop_more}
use Rattle.std.proofs.lemmas.List.Quantifiers.{position-Some}
use Rattle.std.proofs.lemmas.Option.{same_Some, slice_get_within, get_or_from_slice_get}
use Rattle.std.proofs.Math.ListN.{length-set}
use Rattle.small_card.specs.Lists.{Every, EveryPair}
use Rattle.small_card.specs.Ranges.{IsBefore}
use Rattle.small_card.specs.Units.{has_seq}
use Rattle.small_card.specs.declared.types.PackageResult.{PackageResult}
use Rattle.small_card.proofs.ListLemmas.{every_filter, any_at}
use Rattle.home_codec.specs.Laying.{IsOther}
use Rattle.home_codec.specs.Ordering.{somes, insert, in_order}
use Rattle.home_codec.proofs.Seating.{insert_first, in_order_append}
use Rattle.home_codec.proofs.Sorting.{in_order_every}
use Rattle.card_store.specs.Slots.{number_in}
use Rattle.card_store.specs.Seats.{AreSeats, seat_at, places_of, has_number, stands, is_gone, IsFreed, IsSlotOfNew, Stayed, Came, AreBelow, staying, Keeping, Filling}
use Rattle.card_store.proofs.Numbers.{all_at, has_some, stands_at}
use Rattle.card_store.proofs.Kept.{lower_before, true_false}
use Rattle.card_store.proofs.Seating.{somes_set, length-split, map_set, seat_free, length-places, below_next, take_next}

others_behind : (r : PackageResult) (xs ys : List PackageResult) → IsOther r (xs ++ ys) → IsOther r ys
others_behind r [] ys other = other
others_behind r (x ∷ xs) ys other = others_behind r xs ys other.1

-- one more, wherever it stands
in_order_with : (before behind : List PackageResult) (r : PackageResult) → IsOther r (before ++ behind) → in_order (before ++ r ∷ behind) ≡ insert r (in_order (before ++ behind))
in_order_with before behind r other =
    in_order_append [] before (r ∷ behind)
    ∙ insert_first r (in_order before) behind (others_behind r before behind other)
    ∙ ap (insert r) (sym (in_order_append [] before behind))

-- a result between lower and higher ones
insert_by : (b : Bool) (r s : PackageResult) (ss ts : List PackageResult) → b ≡ false → insert r ss ≡ ts → (if b then r ∷ s ∷ ss else s ∷ insert r ss) ≡ s ∷ ts
insert_by true r s ss ts e f = absurd (cc e)
insert_by false r s ss ts e f = ap (λ (l : List PackageResult). s ∷ l) f

insert_here : (b : Bool) (r s : PackageResult) (ss : List PackageResult) → b ≡ true → (if b then r ∷ s ∷ ss else s ∷ insert r ss) ≡ r ∷ s ∷ ss
insert_here true r s ss e = refl
insert_here false r s ss e = absurd (cc e)

insert_between : (r : PackageResult) (xs ys : List PackageResult) → Every (λ s. IsBefore s r) xs → Every (IsBefore r) ys → insert r (xs ++ ys) ≡ xs ++ r ∷ ys
insert_between r [] [] low high = refl
insert_between r [] (y ∷ ys) low high = insert_here (nat_le r.seq y.seq) r y ys (le-leb r.seq y.seq (omega (arith, high.0)))
insert_between r (x ∷ xs) ys low high = insert_by (nat_le r.seq x.seq) r x (xs ++ ys) (xs ++ r ∷ ys) (lt-leb r.seq x.seq low.0) (insert_between r xs ys low.1 high)

other_between : (r : PackageResult) (xs ys : List PackageResult) → Every (λ s. IsBefore s r) xs → Every (IsBefore r) ys → IsOther r (xs ++ ys)
other_between r [] [] low high = tt
other_between r [] (y ∷ ys) low high = ((λ e. omega (arith, high.0, e)), other_between r [] ys low high.1)
other_between r (x ∷ xs) ys low high = ((λ e. omega (arith, low.0, e)), other_between r xs ys low.1 high)

-- a seat more, for a result between the others
seat_more : (pending : List PackageResult) (seats : List (Option ℕ)) (s i : ℕ) (r : PackageResult) (xs ys : List PackageResult) → slice_get pending i ≡ Some r → s < 8 → seat_at seats s ≡ None
    → Every (λ q. IsBefore q r) xs → Every (IsBefore r) ys → AreSeats pending (xs ++ ys) seats → AreSeats pending (xs ++ r ∷ ys) (set seats s (Some i))
seat_more pending seats s i r xs ys is lt free low high h =
    let split = somes_set (places_of pending seats) s r (omega (arith, length-places pending seats, h.all, lt)) (seat_free pending seats s free) in
    let old : in_order (split.before ++ split.behind) ≡ xs ++ ys = ap in_order (sym split.old_is) ∙ h.each in
    let other : IsOther r (split.before ++ split.behind) = in_order_every (λ q. q.seq ≢ r.seq) (split.before ++ split.behind) (subst (λ (l : List PackageResult). IsOther r l) (sym old) (other_between r xs ys low high)) in
    record {
      all = length-set seats s (Some i) ∙ h.all;
      each = ap (λ (l : List (Option PackageResult)). in_order (somes l)) (map_set pending seats s i r is)
          ∙ ap in_order split.new_is
          ∙ in_order_with split.before split.behind r other
          ∙ ap (insert r) old
          ∙ insert_between r xs ys low high;
    }

count_more : (seats : List (Option ℕ)) (s i : ℕ) (r : PackageResult) (xs ys : List PackageResult) → s < length seats → seat_at seats s ≡ None → length (somes seats) ≡ length (xs ++ ys) → length (somes (set seats s (Some i))) ≡ length (xs ++ r ∷ ys)
count_more seats s i r xs ys lt free e = omega (arith, length-split _ _ _ (somes_set seats s i lt free), e, length-append xs ys, length-append xs (r ∷ ys))

-- the seats after one more was given
seat_after : (seats : List (Option ℕ)) (s i slot k : ℕ) (P : Type 0) → s < length seats → seat_at (set seats s (Some i)) slot ≡ Some k → (slot ≡ s → k ≡ i → P) → (seat_at seats slot ≡ Some k → P) → P
seat_after seats s i slot k P lt e new old = by_case (cases_eq slot s)
  where
    by_case : (slot ≡ s) ⊎ (slot ≢ s) → P
    by_case (inl f) = new f (same_Some k i (sym e ∙ ap (seat_at (set seats s (Some i))) f ∙ get_or-set_same seats s (Some i) None lt))
    by_case (inr f) = old (sym (get_or-set_other seats s slot (Some i) None f) ∙ e)

seat_stays : (seats : List (Option ℕ)) (s i slot k : ℕ) → seat_at seats s ≡ None → seat_at seats slot ≡ Some k → seat_at (set seats s (Some i)) slot ≡ Some k
seat_stays seats s i slot k free e = get_or-set_other seats s slot (Some i) None (λ f. cc (sym e ∙ ap (seat_at seats) f ∙ free)) ∙ e

-- a seat is free where it can't be taken
free_by : (seats : List (Option ℕ)) (s : ℕ) → ((k : ℕ) → seat_at seats s ≡ Some k → ⊥) → seat_at seats s ≡ None
free_by seats s not = by_value (seat_at seats s) refl
  where
    by_value : (o : Option ℕ) → seat_at seats s ≡ o → o ≡ None
    by_value None e = refl
    by_value (Some k) e = absurd (not k e)

-- those that stay, with one result more
staying_kept : (slots : List (Option ℕ)) (xs : List PackageResult) (r : PackageResult) → stands slots r.seq ≡ true → staying slots (xs ++ r ∷ []) ≡ staying slots xs ++ r ∷ []
staying_kept slots [] r e = rw e refl
staying_kept slots (x ∷ xs) r e = by_value (staying_kept slots xs r e) (stands slots x.seq)
  where
    by_value : staying slots (xs ++ r ∷ []) ≡ staying slots xs ++ r ∷ [] → (b : Bool) → cond b (x ∷ staying slots (xs ++ r ∷ [])) (staying slots (xs ++ r ∷ [])) ≡ cond b (x ∷ staying slots xs) (staying slots xs) ++ r ∷ []
    by_value rest true = ap (λ (l : List PackageResult). x ∷ l) rest
    by_value rest false = rest

staying_new : (slots : List (Option ℕ)) (xs : List PackageResult) (r : PackageResult) → stands slots r.seq ≡ false → staying slots (xs ++ r ∷ []) ≡ staying slots xs
staying_new slots [] r e = rw e refl
staying_new slots (x ∷ xs) r e = by_value (staying_new slots xs r e) (stands slots x.seq)
  where
    by_value : staying slots (xs ++ r ∷ []) ≡ staying slots xs → (b : Bool) → cond b (x ∷ staying slots (xs ++ r ∷ [])) (staying slots (xs ++ r ∷ [])) ≡ cond b (x ∷ staying slots xs) (staying slots xs)
    by_value rest true = ap (λ (l : List PackageResult). x ∷ l) rest
    by_value rest false = rest

length-staying : (slots : List (Option ℕ)) (xs : List PackageResult) → length (staying slots xs) ≤ length xs
length-staying slots [] = omega arith
length-staying slots (x ∷ xs) = by_value (length-staying slots xs) (stands slots x.seq)
  where
    by_value : length (staying slots xs) ≤ length xs → (b : Bool) → length (cond b (x ∷ staying slots xs) (staying slots xs)) ≤ suc (length xs)
    by_value rest true = omega (arith, rest)
    by_value rest false = omega (arith, rest)

front_kept : (slots : List (Option ℕ)) (xs : List PackageResult) (r : PackageResult) → stands slots r.seq ≡ true → staying slots (r ∷ xs) ≡ r ∷ staying slots xs
front_kept slots xs r e = rw e refl

front_new : (slots : List (Option ℕ)) (xs : List PackageResult) (r : PackageResult) → stands slots r.seq ≡ false → staying slots (r ∷ xs) ≡ staying slots xs
front_new slots xs r e = rw e refl

drop_next : (xs : List PackageResult) (i : ℕ) (r : PackageResult) → slice_get xs i ≡ Some r → drop i xs ≡ r ∷ drop (i + 1) xs
drop_next xs i r is = drop_more xs i r (slice_get_within xs i r is) ∙ ap (λ (y : PackageResult). y ∷ drop (i + 1) xs) (get_or_from_slice_get xs i r r is)

pair_drop : (xs : List PackageResult) (i : ℕ) → EveryPair IsBefore xs → EveryPair IsBefore (drop i xs)
pair_drop [] zero rising = tt
pair_drop [] (suc i) rising = tt
pair_drop (x ∷ xs) zero rising = rising
pair_drop (x ∷ xs) (suc i) rising = pair_drop xs i rising.1

above_next : (xs : List PackageResult) (i : ℕ) (r : PackageResult) → EveryPair IsBefore xs → slice_get xs i ≡ Some r → Every (IsBefore r) (drop (i + 1) xs)
above_next xs i r rising is = (subst (λ (l : List PackageResult). EveryPair IsBefore l) (drop_next xs i r is) (pair_drop xs i rising)).0

-- no place, and none passes
any_past : (t : Option ℕ → Bool) (xs : List (Option ℕ)) → length xs ≤ position_or_len t xs → list_any t xs ≡ false
any_past t [] h = refl
any_past t (x ∷ xs) h =
    elim (t x) as (λ b. suc (length xs) ≤ cond (not b) (1 + position_or_len t xs) 0 → (b || list_any t xs) ≡ false) [
      | true ↦ λ l. absurd (omega (arith, l))
      | false ↦ λ l. any_past t xs (omega arith)
    ] h

pub none_past : (t : Option ℕ → Bool) (xs : List (Option ℕ)) → position t xs ≡ None → list_any t xs ≡ false
none_past t xs e =
    elim (nat_lt (position_or_len t xs) (length xs)) as (λ b. nat_lt (position_or_len t xs) (length xs) ≡ b → cond {A = Option ℕ} b (Some (position_or_len t xs)) None ≡ None → list_any t xs ≡ false) [
      | true ↦ λ l k. absurd (cc)
      | false ↦ λ l k. any_past t xs (ltb-false (position_or_len t xs) (length xs) l)
    ] refl e

-- a result stays
pub keep_step : (slots : List (Option ℕ)) (pending : List PackageResult) (i s : ℕ) (r : PackageResult) (seats : List (Option ℕ)) → EveryPair IsBefore pending → length slots ≡ 8 → slice_get pending i ≡ Some r → position (has_number r.seq) slots ≡ Some s
    → Keeping slots pending i seats → Keeping slots pending (i + 1) (set seats s (Some i))
keep_step slots pending i s r seats rising all is place h =
    let found = position-Some (has_number r.seq) slots s None place in
    let here : number_in slots s ≡ Some r.seq = has_some r.seq (number_in slots s) found.1 in
    let stays : stands slots r.seq ≡ true = stands_at slots s r.seq here in
    let lt : s < 8 = omega (arith, found.0, all) in
    let within : s < length seats = omega (arith, lt, h.ordered.all) in
    let free : seat_at seats s ≡ None = free_by seats s (λ k e. taken k (h.each s k e) here) in
    let list : staying slots (take (i + 1) pending) ≡ staying slots (take i pending) ++ r ∷ [] = ap (staying slots) (take_next pending i r is) ∙ staying_kept slots (take i pending) r stays in
    let low : Every (λ q. IsBefore q r) (staying slots (take i pending)) = every_filter (λ q. IsBefore q r) (λ q. stands slots q.seq) (take i pending) (below_next pending i r rising is) in
    let old : AreSeats pending (staying slots (take i pending) ++ []) seats = subst (λ (l : List PackageResult). AreSeats pending l seats) (sym (append-nil (staying slots (take i pending)))) h.ordered in
    record {
      ordered = subst (λ (l : List PackageResult). AreSeats pending l (set seats s (Some i))) (sym list) (seat_more pending seats s i r (staying slots (take i pending)) [] is lt free low tt old);
      count = count_more seats s i r (staying slots (take i pending)) [] within free (h.count ∙ ap length (sym (append-nil (staying slots (take i pending))))) ∙ ap length (sym list);
      each = λ slot k e. seat_after seats s i slot k (Stayed slots pending slot k × (k < i + 1)) within e
          (λ f g. (record { kept = r; is = ap (slice_get pending) g ∙ is; here = ap (number_in slots) f ∙ here }, omega (arith, g)))
          (λ f. let o = h.each slot k f in (o.0, omega (arith, o.1)));
    }
  where
    taken : (k : ℕ) → Stayed slots pending s k × (k < i) → number_in slots s ≡ Some r.seq → ⊥
    taken k o here = omega (arith, lower_before pending k i o.0.kept r rising o.0.is is o.1, same_Some o.0.kept.seq r.seq (sym o.0.here ∙ here))

-- it doesn't
pub keep_skip : (slots : List (Option ℕ)) (pending : List PackageResult) (i : ℕ) (r : PackageResult) (seats : List (Option ℕ)) → slice_get pending i ≡ Some r → position (has_number r.seq) slots ≡ None
    → Keeping slots pending i seats → Keeping slots pending (i + 1) seats
keep_skip slots pending i r seats is place h =
    let list : staying slots (take (i + 1) pending) ≡ staying slots (take i pending) = ap (staying slots) (take_next pending i r is) ∙ staying_new slots (take i pending) r (none_past (has_number r.seq) slots place) in
    record {
      ordered = subst (λ (l : List PackageResult). AreSeats pending l seats) (sym list) h.ordered;
      count = h.count ∙ ap length (sym list);
      each = λ slot k e. let o = h.each slot k e in (o.0, omega (arith, o.1));
    }

-- there is room for a new result
pub fill_room : (slots : List (Option ℕ)) (pending : List PackageResult) (i : ℕ) (r : PackageResult) (seats : List (Option ℕ)) → slice_get pending i ≡ Some r → stands slots r.seq ≡ false → length pending ≤ 8
    → Filling slots pending i seats → length (somes seats) < 8
fill_room slots pending i r seats is new few h =
    let behind = drop (i + 1) pending in
    let list : staying slots (drop i pending) ≡ staying slots behind = ap (staying slots) (drop_next pending i r is) ∙ front_new slots behind r new in
    let lt : i < length pending = slice_get_within pending i r is in
    omega (arith, h.count, length-append (take i pending) (staying slots (drop i pending)), ap length list, length-staying slots behind, length-take-le i pending (omega (arith, lt)), length-drop (i + 1) pending, lt, few)

-- a new result takes its slot
pub fill_step : (slots : List (Option ℕ)) (pending : List PackageResult) (i s : ℕ) (r : PackageResult) (seats : List (Option ℕ)) → EveryPair IsBefore pending → slice_get pending i ≡ Some r → stands slots r.seq ≡ false → s < 8
    → IsSlotOfNew slots pending seats r.seq s → Filling slots pending i seats → Filling slots pending (i + 1) (set seats s (Some i))
fill_step slots pending i s r seats rising is new lt place h = record {
  ordered = subst (λ (l : List PackageResult). AreSeats pending l (set seats s (Some i))) (sym list_new) (seat_more pending seats s i r (take i pending) (staying slots behind) is lt free low high
      (subst (λ (l : List PackageResult). AreSeats pending l seats) list_old h.ordered));
  count = count_more seats s i r (take i pending) (staying slots behind) within free (h.count ∙ ap length list_old) ∙ ap length (sym list_new);
  each = λ slot k e. seat_after seats s i slot k (Stayed slots pending slot k ⊎ (Came slots pending (set seats s (Some i)) slot k × (k < i + 1))) within e
      (λ f g. inr (subst (λ (x : ℕ). Came slots pending (set seats s (Some i)) x k) (sym f) (subst (λ (x : ℕ). Came slots pending (set seats s (Some i)) s x) (sym g) came), omega (arith, g)))
      (λ f. older slot k (h.each slot k f));
}
  where
    behind : List PackageResult
    behind = drop (i + 1) pending

    within : s < length seats
    within = omega (arith, lt, h.ordered.all)

    list_old : take i pending ++ staying slots (drop i pending) ≡ take i pending ++ staying slots behind
    list_old = ap (λ (l : List PackageResult). take i pending ++ l) (ap (staying slots) (drop_next pending i r is) ∙ front_new slots behind r new)

    list_new : take (i + 1) pending ++ staying slots behind ≡ take i pending ++ r ∷ staying slots behind
    list_new = ap (λ (l : List PackageResult). l ++ staying slots behind) (take_next pending i r is) ∙ append_assoc (take i pending) (r ∷ []) (staying slots behind)

    low : Every (λ q. IsBefore q r) (take i pending)
    low = below_next pending i r rising is

    high : Every (IsBefore r) (staying slots behind)
    high = every_filter (IsBefore r) (λ q. stands slots q.seq) behind (above_next pending i r rising is)

    taken : IsFreed slots pending r.seq s → (k : ℕ) → Stayed slots pending s k ⊎ (Came slots pending seats s k × (k < i)) → ⊥
    taken freed k (inl t) = true_false (sym (ap (is_gone pending) t.here) ∙ freed.gone.gone) (gone_not t.kept.seq (any_at (has_seq t.kept.seq) pending k t.kept t.is (eq-eqb t.kept.seq t.kept.seq refl)))
      where
        gone_not : (n : ℕ) → list_any (has_seq n) pending ≡ true → is_gone pending (Some n) ≡ false
        gone_not n e = rw e refl
    taken freed k (inr c) = other (or_cases (c.0.kept.seq == r.seq) (stands slots c.0.kept.seq) (all_at (λ (q : PackageResult). (q.seq == r.seq) || stands slots q.seq) pending k c.0.kept freed.came c.0.is))
      where
        other : ((c.0.kept.seq == r.seq) ≡ true) ⊎ (stands slots c.0.kept.seq ≡ true) → ⊥
        other (inl e) = omega (arith, eqb-true c.0.kept.seq r.seq e, lower_before pending k i c.0.kept r rising c.0.is is c.1)
        other (inr e) = true_false e c.0.new

    free_at : IsSlotOfNew slots pending seats r.seq s → seat_at seats s ≡ None
    free_at (inl freed) = free_by seats s (λ k e. taken freed k (h.each s k e))
    free_at (inr none) = none.1

    free : seat_at seats s ≡ None
    free = free_at place

    below : (lower k : ℕ) → Stayed slots pending lower k ⊎ (Came slots pending seats lower k × (k < i)) → Stayed slots pending lower k ⊎ (k < i)
    below lower k (inl t) = inl t
    below lower k (inr c) = inr c.1

    placed : IsSlotOfNew slots pending seats r.seq s → IsFreed slots pending r.seq s ⊎ (((other : ℕ) → IsFreed slots pending r.seq other → ⊥) × AreBelow slots pending (set seats s (Some i)) s i)
    placed (inl freed) = inl freed
    placed (inr none) = inr (none.0, λ lower less. let at = none.2 lower less in (at.0, seat_stays seats s i lower at.0 free at.1, below lower at.0 (h.each lower at.0 at.1)))

    came : Came slots pending (set seats s (Some i)) s i
    came = record { kept = r; is = is; new = new; place = placed place }

    moved : (n slot k : ℕ) → IsFreed slots pending n slot ⊎ (((other : ℕ) → IsFreed slots pending n other → ⊥) × AreBelow slots pending seats slot k)
        → IsFreed slots pending n slot ⊎ (((other : ℕ) → IsFreed slots pending n other → ⊥) × AreBelow slots pending (set seats s (Some i)) slot k)
    moved n slot k (inl f) = inl f
    moved n slot k (inr none) = inr (none.0, λ lower less. let at = none.1 lower less in (at.0, seat_stays seats s i lower at.0 free at.1, at.2))

    older : (slot k : ℕ) → Stayed slots pending slot k ⊎ (Came slots pending seats slot k × (k < i)) → Stayed slots pending slot k ⊎ (Came slots pending (set seats s (Some i)) slot k × (k < i + 1))
    older slot k (inl t) = inl t
    older slot k (inr c) = inr (record { kept = c.0.kept; is = c.0.is; new = c.0.new; place = moved c.0.kept.seq slot k c.0.place }, omega (arith, c.1))

-- a result that stays has its seat
pub fill_skip : (slots : List (Option ℕ)) (pending : List PackageResult) (i : ℕ) (r : PackageResult) (seats : List (Option ℕ)) → slice_get pending i ≡ Some r → stands slots r.seq ≡ true
    → Filling slots pending i seats → Filling slots pending (i + 1) seats
fill_skip slots pending i r seats is stays h =
    let behind = drop (i + 1) pending in
    let list : take i pending ++ staying slots (drop i pending) ≡ take (i + 1) pending ++ staying slots behind =
    ap (λ (l : List PackageResult). take i pending ++ l) (ap (staying slots) (drop_next pending i r is) ∙ front_kept slots behind r stays)
    ∙ sym (append_assoc (take i pending) (r ∷ []) (staying slots behind))
    ∙ ap (λ (l : List PackageResult). l ++ staying slots behind) (sym (take_next pending i r is)) in
    record {
      ordered = subst (λ (l : List PackageResult). AreSeats pending l seats) list h.ordered;
      count = h.count ∙ ap length list;
      each = λ slot k e. more slot k (h.each slot k e);
    }
  where
    more : (slot k : ℕ) → Stayed slots pending slot k ⊎ (Came slots pending seats slot k × (k < i)) → Stayed slots pending slot k ⊎ (Came slots pending seats slot k × (k < i + 1))
    more slot k (inl t) = inl t
    more slot k (inr c) = inr (c.0, omega (arith, c.1))
