-- What one more unit makes of the pending results.
use Rattle.std.proofs.Common.{◌≡◌, ℕ, Bool, true, false, not, ◌&&◌, cond, List, [], ◌∷◌, ◌++◌, map, arith, refl, ◌∙◌, ap, sym, subst, inl, inr, Option, Some}
use Rattle.std.specs.List.{filter, list_any}
use Rattle.std.proofs.lemmas.Bool.{true≢false, or_cases, and_parts, not-true, eqb-true, ne_eqb}
use Rattle.small_card.specs.Lists.{Every, EveryPair, without}
use Rattle.small_card.specs.Cards.{FullCard, Results}
use Rattle.small_card.specs.Packages.{result_of, with_result}
use Rattle.small_card.specs.Units.{CardUnit, initial, load, rollback, remove, has_seq, is_pending, without_result, with_mark, marked, loaded, rolled_back, after_unit}
use Rattle.small_card.specs.Histories.{History, card_of, former_of, full_of, with_unit}
use Rattle.small_card.specs.Legal.{IsLegal, May}
use Rattle.small_card.specs.Pending.{IsAdded, IsRemoved, IsRolledBack, IsOther}
use Rattle.small_card.specs.Ranges.{IsBefore}
use Rattle.small_card.specs.Steps.{step_full}
use Rattle.small_card.specs.Valid.{AreResults, IsArmed, is_unmarked}
use Rattle.small_card.specs.declared.types.Armed.{Armed}
use Rattle.small_card.specs.declared.types.Package.{Package}
use Rattle.small_card.specs.declared.types.PackageResult.{PackageResult}
use Rattle.small_card.proofs.ListLemmas.{every_mono, any_every, pair_mono, without_none}
use Rattle.small_card.proofs.Looking.{full_more}
use Rattle.small_card.proofs.Validity.{legal_valid}

-- the one element that passes t passes u too, and is taken out by t
record IsOne {X : Type 0} (t u : X → Bool) (xs : List X) : Type 0 where
  one : X
  front : List X
  back : List X
  there : xs ≡ front ++ one ∷ back
  passes : u one ≡ true
  left : without t xs ≡ front ++ back
  found : filter t xs ≡ one ∷ []

pub filter_none : {X : Type 0} (t : X → Bool) (xs : List X) → Every (λ x. t x ≡ false) xs → filter t xs ≡ []
filter_none t [] h = refl
filter_none t (x ∷ xs) h = ap (λ b. cond b (x ∷ filter t xs) (filter t xs)) h.0 ∙ filter_none t xs h.1

none_other : {X : Type 0} (t u : X → Bool) → ((x : X) → u x ≡ true → t x ≡ true) → (xs : List X) → Every (λ x. t x ≡ false) xs → list_any u xs ≡ true → ⊥
none_other t u f xs h e = let y = any_every u (λ x. t x ≡ false) xs e h in true≢false (sym (f y.0 y.1) ∙ y.2)

one_here : {X : Type 0} (t u : X → Bool) → ((x : X) → u x ≡ true → t x ≡ true) → (x : X) (xs : List X) → Every (λ y. t x ≡ true → t y ≡ false) xs → list_any u (x ∷ xs) ≡ true → t x ≡ true → IsOne t u (x ∷ xs)
one_here {X} t u f x xs h e k =
    let others : Every (λ y. t y ≡ false) xs = every_mono (λ y. t x ≡ true → t y ≡ false) (λ y. t y ≡ false) (λ y g. g k) xs h in
    record {
      one = x;
      front = [];
      back = xs;
      there = refl;
      passes = elim (or_cases (u x) (list_any u xs) e) [ inl p ↦ p | inr p ↦ absurd (none_other t u f xs others p) ];
      left = ap (λ b. cond (not b) (x ∷ without t xs) (without t xs)) k ∙ without_none t xs others;
      found = ap (λ b. cond b (x ∷ filter t xs) (filter t xs)) k ∙ ap (λ ys. x ∷ ys) (filter_none t xs others);
    }

one_later : {X : Type 0} (t u : X → Bool) (x : X) (xs : List X) → t x ≡ false → IsOne t u xs → IsOne t u (x ∷ xs)
one_later t u x xs k o = record {
  one = o.one;
  front = x ∷ o.front;
  back = o.back;
  there = ap (λ ys. x ∷ ys) o.there;
  passes = o.passes;
  left = ap (λ b. cond (not b) (x ∷ without t xs) (without t xs)) k ∙ ap (λ ys. x ∷ ys) o.left;
  found = ap (λ b. cond b (x ∷ filter t xs) (filter t xs)) k ∙ o.found;
}

only_one : {X : Type 0} (t u : X → Bool) → ((x : X) → u x ≡ true → t x ≡ true) → (xs : List X) → EveryPair (λ x y. t x ≡ true → t y ≡ false) xs → list_any u xs ≡ true → IsOne t u xs
only_one t u f [] h e = absurd (true≢false (sym e))
only_one {X} t u f (x ∷ xs) h e =
    elim (t x) as (λ b. t x ≡ b → IsOne t u (x ∷ xs)) [
      | true ↦ λ k. one_here t u f x xs h.0 e k
      | false ↦ λ k. elim (or_cases (u x) (list_any u xs) e) [
        | inl p ↦ absurd (true≢false (sym (f x p) ∙ k))
        | inr p ↦ one_later t u x xs k (only_one t u f xs h.1 p)
      ]
    ] refl

-- of rising numbers one at most is this one
seq_once : (seq : ℕ) (r s : PackageResult) → IsBefore r s → has_seq seq r ≡ true → has_seq seq s ≡ false
seq_once seq r s h e = ne_eqb s.seq seq (λ k. omega (arith, h, k, eqb-true r.seq seq e))

rising_once : (seq : ℕ) (rs : List PackageResult) → EveryPair IsBefore rs → EveryPair (λ r s. has_seq seq r ≡ true → has_seq seq s ≡ false) rs
rising_once seq rs h = pair_mono IsBefore (λ r s. has_seq seq r ≡ true → has_seq seq s ≡ false) (seq_once seq) rs h

results_more : (h : History) (u : CardUnit) → (card_of (with_unit h u)).results ≡ (after_unit (full_of h) u).results
unfolding full_of step_full
results_more h u = ap (λ f. f.card.results) (full_more h u)

results_valid : (h : History) → IsLegal h → AreResults (card_of h).results
unfolding full_of
results_valid h l = (legal_valid h l).card.results

pub load_adds : (h : History) (p : Package) → IsAdded (result_of (card_of h) p) (card_of h).results (card_of (with_unit h (load p))).results
unfolding full_of after_unit loaded with_result result_of
load_adds h p =
    let e = results_more h (load p) in
    record { number = refl; last = ap (λ rs. rs.pending) e; next = ap (λ rs. rs.next) e }

removed_one : (seq : ℕ) (rs : Results) → AreResults rs → is_pending seq rs.pending ≡ true → IsRemoved seq rs (without_result seq rs)
unfolding without_result is_pending
removed_one seq rs v e =
    let o = only_one (has_seq seq) (has_seq seq) (λ r k. k) rs.pending (rising_once seq rs.pending v.rising) e in
    record {
      result = o.one;
      named = eqb-true o.one.seq seq o.passes;
      out = record { front = o.front; back = o.back; there = o.there; left = o.left };
      next = refl;
    }

pub remove_takes_out : (h : History) (seq : ℕ) → IsLegal h → May h (remove seq) → IsRemoved seq (card_of h).results (card_of (with_unit h (remove seq))).results
unfolding May full_of after_unit
remove_takes_out h seq l m = subst (IsRemoved seq (card_of h).results) (sym (results_more h (remove seq))) (removed_one seq (card_of h).results (results_valid h l) m)

marked_one : (armed : Armed) (rs : Results) → AreResults rs → is_unmarked armed.seq rs.pending ≡ true → IsRolledBack armed rs (marked armed.seq rs)
unfolding marked
marked_one armed rs v e =
    let seq = armed.seq in
    let o = only_one (has_seq seq) (λ r. has_seq seq r && not r.rolled) (λ r k. (and_parts (has_seq seq r) (not r.rolled) k).0) rs.pending (rising_once seq rs.pending v.rising) e in
    let parts = and_parts (has_seq seq o.one) (not o.one.rolled) o.passes in
    record {
      result = o.one;
      others = without (has_seq seq) rs.pending;
      named = eqb-true o.one.seq seq parts.0;
      unmarked = not-true o.one.rolled parts.1;
      out = record { front = o.front; back = o.back; there = o.there; left = o.left };
      last = ap (λ ys. without (has_seq seq) rs.pending ++ map (with_mark rs.next) ys) o.found;
      next = refl;
    }

rolled_one : (f : FullCard) (o : Option Armed) (armed : Armed) → o ≡ Some armed → AreResults f.card.results → IsArmed f.card armed → IsRolledBack armed f.card.results (rolled_back o f.card).results
unfolding rolled_back
rolled_one f o armed e v a = subst (λ o. IsRolledBack armed f.card.results (rolled_back o f.card).results) (sym e) (marked_one armed f.card.results v a.result)

pub rollback_marks : (h : History) (armed : Armed) → IsLegal h → former_of h ≡ Some armed → IsRolledBack armed (card_of h).results (card_of (with_unit h rollback)).results
unfolding full_of after_unit
rollback_marks h armed l e =
    subst (IsRolledBack armed (card_of h).results) (sym (results_more h rollback))
    (rolled_one (full_of h) (former_of h) armed e (results_valid h l) ((legal_valid h l).armed armed e))

other_leaves : (f : FullCard) (u : CardUnit) → IsOther u → (after_unit f u).results ≡ f.card.results
unfolding after_unit
other_leaves f (initial id address key) o = refl
other_leaves f (load p) o = absurd (o.no_load p refl)
other_leaves f rollback o = absurd (o.no_rollback refl)
other_leaves f (remove seq) o = absurd (o.no_remove seq refl)

pub others_leave : (h : History) (u : CardUnit) → IsOther u → (card_of (with_unit h u)).results ≡ (card_of h).results
unfolding full_of
others_leave h u o = results_more h u ∙ other_leaves (full_of h) u o
