-- A marked result is the one that had the number, and goes last.
use Rattle.std.proofs.Common.{◌≡◌, ℕ, Bool, true, false, ◌||◌, cond, List, [], ◌∷◌, ◌++◌, map, refl, ◌∙◌, ap, Option, Some}
use Rattle.std.specs.Prelude.{find}
use Rattle.std.specs.List.{filter, list_any}
use Rattle.std.proofs.lemmas.Bool.{false≢true}
use Rattle.small_card.specs.Cards.{Results}
use Rattle.small_card.specs.Lists.{EveryPair, without}
use Rattle.small_card.specs.Units.{has_seq, is_pending, with_mark, marked}
use Rattle.small_card.proofs.ListLemmas.{every_mono}
use Rattle.result_store.specs.Stores.{IsStore}
use Rattle.result_store.proofs.Passing.{rising_one}
use Rattle.small_card.proofs.Pending.{filter_none}
use Rattle.rollback_unit.specs.Rolls.{IsMarkedLast}

-- one element passes the test
record IsOne {X : Type 0} (t : X → Bool) (xs : List X) : Type 0 where
  pub one : X
  pub found : find t xs ≡ Some one
  pub all : filter t xs ≡ one ∷ []

one_passes : {X : Type 0} (t : X → Bool) (xs : List X) → EveryPair (λ x y. t x ≡ true → t y ≡ false) xs → list_any t xs ≡ true → IsOne t xs
one_passes t [] h e = absurd (false≢true e)
one_passes t (x ∷ xs) h e =
    elim (t x) as (λ b. t x ≡ b → b || list_any t xs ≡ true → IsOne t (x ∷ xs)) [
      | true ↦ λ k _. record {
        one = x;
        found = ap (λ b. cond {A = Option _} b (Some x) (find t xs)) k;
        all = ap (λ b. cond b (x ∷ filter t xs) (filter t xs)) k ∙ ap (λ ys. x ∷ ys) (filter_none t xs (every_mono (λ y. t x ≡ true → t y ≡ false) (λ y. t y ≡ false) (λ y f. f k) xs h.0));
      }
      | false ↦ λ k m.
          let one = one_passes t xs h.1 m in
          record {
            one = one.one;
            found = ap (λ b. cond {A = Option _} b (Some x) (find t xs)) k ∙ one.found;
            all = ap (λ b. cond b (x ∷ filter t xs) (filter t xs)) k ∙ one.all;
          }
    ] refl e

-- the result with this number goes last
pub mark_goes_last : (seq : ℕ) (rs : Results) → IsStore rs → is_pending seq rs.pending ≡ true → IsMarkedLast seq rs.next rs.pending (marked seq rs).pending
unfolding is_pending marked
mark_goes_last seq rs h e =
    let one = one_passes (has_seq seq) rs.pending (rising_one seq rs.pending h.pairs) e in
    record {
      kept = one.one;
      found = one.found;
      last = ap (λ rows. without (has_seq seq) rs.pending ++ map (with_mark rs.next) rows) one.all;
    }
