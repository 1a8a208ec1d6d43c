-- Results that keep their slots, once all have seats.
use Rattle.std.proofs.Common.{◌≡◌, ◌⊎◌, inl, inr, ℕ, zero, suc, ◌<◌, ◌≤◌, Bool, true, false, List, [], ◌∷◌, ◌++◌, length, take, drop, refl, sym, ◌∙◌, ap, subst, arith}
use Rattle.std.specs.Prelude.{◌==◌, ◌||◌, Option, Some, slice_get}
use Rattle.std.proofs.lemmas.Bool.{eqb-true, eq-eqb, or_cases, or_left, or_right}
use Rattle.std.proofs.lemmas.List.{take_all, drop_all, append-nil}
use Rattle.std.proofs.lemmas.Option.{same_Some}
use Rattle.small_card.specs.Lists.{Every, EveryPair}
use Rattle.small_card.specs.Ranges.{IsBefore}
use Rattle.small_card.specs.declared.types.PackageResult.{PackageResult}
use Rattle.card_store.specs.Slots.{number_in, IsIn, OneForOne, IsLowestFree, KeepsSlots, numbers_of}
use Rattle.card_store.specs.Seats.{AreSeats, AreApart, seat_at, places_of, stands, is_gone, IsFreed, Stayed, Came, AreBelow, staying, Filling}
use Rattle.card_store.proofs.Numbers.{SeatOf, all_at, all_from, every_map, stands_at, stands_in, stands_not, seat_of, number_of_seat, pending_in, in_pending, gone_from, gone_at}

pub true_false : {b : Bool} → b ≡ true → b ≡ false → ⊥
true_false {b} e f = cc (sym e ∙ f)

-- the result of a place comes before that of a later one
pub lower_before : (pending : List PackageResult) (k i : ℕ) (q r : PackageResult) → EveryPair IsBefore pending → slice_get pending k ≡ Some q → slice_get pending i ≡ Some r → k < i → q.seq < r.seq
lower_before [] k i q r rising isk isi lt = absurd (cc isk)
lower_before (x ∷ xs) k zero q r rising isk isi lt = absurd (omega (arith, lt))
lower_before (x ∷ xs) zero (suc i) q r rising isk isi lt = subst (λ (p : PackageResult). p.seq < r.seq) (same_Some x q isk) (later xs i rising.0 isi)
  where
    later : (ys : List PackageResult) (j : ℕ) → Every (IsBefore x) ys → slice_get ys j ≡ Some r → x.seq < r.seq
    later [] j each is = absurd (cc is)
    later (y ∷ ys) zero each is = subst (λ (p : PackageResult). x.seq < p.seq) (same_Some y r is) each.0
    later (y ∷ ys) (suc j) each is = later ys j each.1 is
lower_before (x ∷ xs) (suc k) (suc i) q r rising isk isi lt = lower_before xs k i q r rising.1 isk isi (omega (arith, lt))

-- what is known once all have seats
record Whole (slots : List (Option ℕ)) (pending : List PackageResult) (seats : List (Option ℕ)) : Type 0 where
  ordered : AreSeats pending pending seats
  rising : EveryPair IsBefore pending
  apart : AreApart slots
  each : (slot i : ℕ) → seat_at seats slot ≡ Some i → Stayed slots pending slot i ⊎ Came slots pending seats slot i

-- one is gone and one came, by the numbers of the slots
freed_one : (slots : List (Option ℕ)) (pending : List PackageResult) (seats : List (Option ℕ)) (slot n : ℕ) → Whole slots pending seats → IsFreed slots pending n slot
    → number_in (numbers_of (places_of pending seats)) slot ≡ Some n → stands slots n ≡ false → (m : ℕ) × OneForOne m n slots (numbers_of (places_of pending seats))
freed_one slots pending seats slot n h freed here new =
    let after = numbers_of (places_of pending seats) in
    let gone = gone_at pending (number_in slots slot) freed.gone.gone in (
      gone.n,
      record {
        gone = record {
          here = (slot, gone.is);
          away = λ i. true_false (in_pending pending seats gone.n i) gone.none;
          alone = λ k i out. same_Some k gone.n (sym i.1 ∙ ap (number_in slots) (freed.gone.alone i.0 (ap (is_gone pending) i.1 ∙ gone_from pending seats k h.ordered out)) ∙ gone.is);
        };
        came = record {
          here = (slot, here);
          away = λ i. true_false (stands_at slots i.0 n i.1) new;
          alone = λ k i out.
              let s = seat_of pending seats i.0 k i.1 in
              others s.kept.seq k s.seq out (or_cases (s.kept.seq == n) (stands slots s.kept.seq) (all_at (λ (r : PackageResult). (r.seq == n) || stands slots r.seq) pending s.at s.kept freed.came s.is));
        };
      },
    )
  where
    others : (m k : ℕ) → m ≡ k → (IsIn k slots → ⊥) → ((m == n) ≡ true) ⊎ (stands slots m ≡ true) → k ≡ n
    others m k e out (inl f) = sym e ∙ eqb-true m n f
    others m k e out (inr f) = absurd (out (subst (λ (x : ℕ). IsIn x slots) e (stands_in slots m f)))

-- and the other way round
one_freed : (slots : List (Option ℕ)) (pending : List PackageResult) (seats : List (Option ℕ)) (slot m n : ℕ) → Whole slots pending seats → number_in slots slot ≡ Some m
    → OneForOne m n slots (numbers_of (places_of pending seats)) → IsFreed slots pending n slot
one_freed slots pending seats slot m n h here one = record {
  gone = record {
    gone = ap (is_gone pending) here ∙ gone_from pending seats m h.ordered one.gone.away;
    alone = λ other e.
        let gone = gone_at pending (number_in slots other) e in
        let same = one.gone.alone gone.n (other, gone.is) (λ i. true_false (in_pending pending seats gone.n i) gone.none) in
        h.apart other slot m (gone.is ∙ ap (λ (k : ℕ). Some k) same) here;
  };
  came = all_from (λ (r : PackageResult). (r.seq == n) || stands slots r.seq) pending (every_map (λ (r : PackageResult). IsIn r.seq (numbers_of (places_of pending seats))) (λ (r : PackageResult). ((r.seq == n) || stands slots r.seq) ≡ true) pending (λ r i. by_value r.seq i (stands slots r.seq) refl) (pending_in pending seats h.ordered));
}
  where
    by_value : (k : ℕ) → IsIn k (numbers_of (places_of pending seats)) → (b : Bool) → stands slots k ≡ b → ((k == n) || b) ≡ true
    by_value k i true e = or_right (k == n) true refl
    by_value k i false e = or_left (k == n) false (eq-eqb k n (one.came.alone k i (λ j. true_false (stands_at slots j.0 k j.1) e)))

-- the result of a seat is one alone
same_kept : (pending : List PackageResult) (seat : Option ℕ) (i n : ℕ) (r : PackageResult) → (s : SeatOf pending seat n) → seat ≡ Some i → slice_get pending i ≡ Some r → r.seq ≡ n
same_kept pending seat i n r s e is =
    let at : s.at ≡ i = same_Some s.at i (sym s.seat_is ∙ e) in
    ap (λ (q : PackageResult). q.seq) (same_Some r s.kept (sym is ∙ ap (slice_get pending) (sym at) ∙ s.is)) ∙ s.seq

stays_at : (slots : List (Option ℕ)) (pending : List PackageResult) (seats : List (Option ℕ)) (slot n : ℕ) → Whole slots pending seats → number_in slots slot ≡ Some n
    → (there : ℕ) → number_in (numbers_of (places_of pending seats)) there ≡ Some n → (s : SeatOf pending (seat_at seats there) n)
    → Stayed slots pending there s.at ⊎ Came slots pending seats there s.at → number_in (numbers_of (places_of pending seats)) slot ≡ Some n
stays_at slots pending seats slot n h here there e s (inl k) =
    let seq = same_kept pending (seat_at seats there) s.at n k.kept s s.seat_is k.is in
    subst (λ (t : ℕ). number_in (numbers_of (places_of pending seats)) t ≡ Some n) (sym (h.apart slot there n here (k.here ∙ ap (λ (x : ℕ). Some x) seq))) e
stays_at slots pending seats slot n h here there e s (inr w) =
    let seq = same_kept pending (seat_at seats there) s.at n w.kept s s.seat_is w.is in
    absurd (true_false (stands_at slots slot n here) (ap (stands slots) (sym seq) ∙ w.new))

takes_at : (slots : List (Option ℕ)) (pending : List PackageResult) (seats : List (Option ℕ)) (slot m n : ℕ) → Whole slots pending seats → number_in slots slot ≡ Some m
    → OneForOne m n slots (numbers_of (places_of pending seats)) → (there : ℕ) → number_in (numbers_of (places_of pending seats)) there ≡ Some n → (s : SeatOf pending (seat_at seats there) n)
    → Stayed slots pending there s.at ⊎ Came slots pending seats there s.at → number_in (numbers_of (places_of pending seats)) slot ≡ Some n
takes_at slots pending seats slot m n h here one there e s (inl k) =
    let seq = same_kept pending (seat_at seats there) s.at n k.kept s s.seat_is k.is in
    absurd (one.came.away (there, k.here ∙ ap (λ (x : ℕ). Some x) seq))
takes_at slots pending seats slot m n h here one there e s (inr w) =
    let seq = same_kept pending (seat_at seats there) s.at n w.kept s s.seat_is w.is in
    let freed = one_freed slots pending seats slot m n h here one in
    by_place (subst (λ (k : ℕ). IsFreed slots pending k slot) (sym seq) freed) w.place
  where
    by_place : IsFreed slots pending w.kept.seq slot → IsFreed slots pending w.kept.seq there ⊎ (((other : ℕ) → IsFreed slots pending w.kept.seq other → ⊥) × AreBelow slots pending seats there s.at)
        → number_in (numbers_of (places_of pending seats)) slot ≡ Some n
    by_place freed (inl f) = subst (λ (t : ℕ). number_in (numbers_of (places_of pending seats)) t ≡ Some n) (freed.gone.alone there f.gone.gone) e
    by_place freed (inr none) = absurd (none.0 slot freed)

-- what stands below
lower_number : (slots : List (Option ℕ)) (pending : List PackageResult) (seats : List (Option ℕ)) (lower k i n : ℕ) (r : PackageResult) → EveryPair IsBefore pending → slice_get pending i ≡ Some r → r.seq ≡ n → seat_at seats lower ≡ Some k
    → Stayed slots pending lower k ⊎ (k < i) → Stayed slots pending lower k ⊎ Came slots pending seats lower k → (m : ℕ) × (number_in (numbers_of (places_of pending seats)) lower ≡ Some m) × (IsIn m slots ⊎ (m < n))
lower_number slots pending seats lower k i n r rising is seq at (inl t) any = (t.kept.seq, number_of_seat pending seats lower k t.kept at t.is, inl (lower, t.here))
lower_number slots pending seats lower k i n r rising is seq at (inr lt) (inl t) = (t.kept.seq, number_of_seat pending seats lower k t.kept at t.is, inl (lower, t.here))
lower_number slots pending seats lower k i n r rising is seq at (inr lt) (inr c) = (c.kept.seq, number_of_seat pending seats lower k c.kept at c.is, inr (subst (λ (x : ℕ). c.kept.seq < x) seq (lower_before pending k i c.kept r rising c.is is lt)))

placed_lowest : (slots : List (Option ℕ)) (pending : List PackageResult) (seats : List (Option ℕ)) (slot n : ℕ) → Whole slots pending seats → number_in (numbers_of (places_of pending seats)) slot ≡ Some n
    → (IsIn n slots → ⊥) → ((m : ℕ) → OneForOne m n slots (numbers_of (places_of pending seats)) → ⊥) → (s : SeatOf pending (seat_at seats slot) n) (w : Came slots pending seats slot s.at) → w.kept.seq ≡ n
    → IsFreed slots pending w.kept.seq slot ⊎ (((other : ℕ) → IsFreed slots pending w.kept.seq other → ⊥) × AreBelow slots pending seats slot s.at) → IsLowestFree slot n slots (numbers_of (places_of pending seats))
placed_lowest slots pending seats slot n h e new not_one s w seq (inl f) =
    let one = freed_one slots pending seats slot n h (subst (λ (k : ℕ). IsFreed slots pending k slot) seq f) e (stands_not slots n new) in
    absurd (not_one one.0 one.1)
placed_lowest slots pending seats slot n h e new not_one s w seq (inr none) = λ lower lt.
    let b = none.1 lower lt in
    lower_number slots pending seats lower b.0 s.at n s.kept h.rising s.is s.seq b.1 b.2 (h.each lower b.0 b.1)

lowest_at : (slots : List (Option ℕ)) (pending : List PackageResult) (seats : List (Option ℕ)) (slot n : ℕ) → Whole slots pending seats → number_in (numbers_of (places_of pending seats)) slot ≡ Some n
    → (IsIn n slots → ⊥) → ((m : ℕ) → OneForOne m n slots (numbers_of (places_of pending seats)) → ⊥) → (s : SeatOf pending (seat_at seats slot) n)
    → Stayed slots pending slot s.at ⊎ Came slots pending seats slot s.at → IsLowestFree slot n slots (numbers_of (places_of pending seats))
lowest_at slots pending seats slot n h e new not_one s (inl k) =
    let seq = same_kept pending (seat_at seats slot) s.at n k.kept s s.seat_is k.is in
    absurd (new (slot, k.here ∙ ap (λ (x : ℕ). Some x) seq))
lowest_at slots pending seats slot n h e new not_one s (inr w) =
    let seq = same_kept pending (seat_at seats slot) s.at n w.kept s s.seat_is w.is in
    placed_lowest slots pending seats slot n h e new not_one s w seq w.place

-- results keep their slots
whole_kept : (slots : List (Option ℕ)) (pending : List PackageResult) (seats : List (Option ℕ)) → Whole slots pending seats → KeepsSlots slots (numbers_of (places_of pending seats))
whole_kept slots pending seats h = record {
  stays = λ slot n here i.
      let s = seat_of pending seats i.0 n i.1 in
      stays_at slots pending seats slot n h here i.0 i.1 s (h.each i.0 s.at s.seat_is);
  takes = λ slot m n here one.
      let i = one.came.here in
      let s = seat_of pending seats i.0 n i.1 in
      takes_at slots pending seats slot m n h here one i.0 i.1 s (h.each i.0 s.at s.seat_is);
  lowest = λ slot n e new not_one.
      let s = seat_of pending seats slot n e in
      lowest_at slots pending seats slot n h e new not_one s (h.each slot s.at s.seat_is);
}

pub all_filled : (pending : List PackageResult) (slots : List (Option ℕ)) (n : ℕ) → length pending ≤ n → take n pending ++ staying slots (drop n pending) ≡ pending
all_filled pending slots n le = ap (λ (l : List PackageResult). take n pending ++ staying slots l) (drop_all n pending le) ∙ append-nil (take n pending) ∙ take_all n pending le

pub filled_seats : (slots : List (Option ℕ)) (pending : List PackageResult) (n : ℕ) (seats : List (Option ℕ)) → length pending ≤ n → Filling slots pending n seats → AreSeats pending pending seats
filled_seats slots pending n seats le f = subst (λ (l : List PackageResult). AreSeats pending l seats) (all_filled pending slots n le) f.ordered

pub filled_kept : (slots : List (Option ℕ)) (pending : List PackageResult) (n : ℕ) (seats : List (Option ℕ)) → EveryPair IsBefore pending → length pending ≤ n → Filling slots pending n seats → AreApart slots
    → KeepsSlots slots (numbers_of (places_of pending seats))
filled_kept slots pending n seats rising le f apart = whole_kept slots pending seats (record {
  ordered = filled_seats slots pending n seats le f;
  rising = rising;
  apart = apart;
  each = λ slot i at. drop_bound slot i (f.each slot i at);
})
  where
    drop_bound : (slot i : ℕ) → Stayed slots pending slot i ⊎ (Came slots pending seats slot i × (i < n)) → Stayed slots pending slot i ⊎ Came slots pending seats slot i
    drop_bound slot i (inl t) = inl t
    drop_bound slot i (inr c) = inr c.0
