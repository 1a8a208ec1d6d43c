-- The test of rows that have numbers passes exactly where they may stand in one list.
use Rattle.std.proofs.Common.{◌≡◌, ℕ, ◌+◌, ◌≤◌, Bool, true, ◌&&◌, List, length, arith}
use Rattle.std.specs.Prelude.{nat_le, nat_lt, ◌↔◌}
use Rattle.std.specs.List.{list_all}
use Rattle.std.proofs.lemmas.Bool.{and_parts, and_from, leb-true, le-leb, ltb-true, lt-ltb}
use Rattle.small_card.specs.Pairs.{each_pair}
use Rattle.small_card.specs.Numbered.{IsGiven, is_given, AreNumbered, are_numbered}
use Rattle.small_card.proofs.PairTests.{Tests, each_take, each_again, pairs_take, pairs_again}

given_takes : (next n : ℕ) → is_given next n ≡ true → IsGiven next n
given_takes next n h =
    let k = and_parts (nat_le 1 n) (nat_lt n next) h in
    record { some = leb-true 1 n k.0; given = ltb-true n next k.1 }

given_again : (next n : ℕ) → IsGiven next n → is_given next n ≡ true
given_again next n h = and_from _ _ (le-leb 1 n h.some) (lt-ltb n next h.given)

-- a number that was given out stays so
pub given_later : (next n : ℕ) → IsGiven next n → IsGiven (next + 1) n
given_later next n h = record { some = h.some; given = omega (arith, h.given) }

numbered_take : {X : Type 0} {test : X → X → Bool} {R : X → X → Type 0} → Tests test R → (most : ℕ) (number : X → ℕ) (next : ℕ) (xs : List X) → next ≤ 4294967295
    → are_numbered most number test next xs ≡ true → AreNumbered most number R next xs
unfolding are_numbered
numbered_take {X} {test} t most number next xs fits e =
    let each = list_all (λ x. is_given next (number x)) xs in
    let a = and_parts (nat_le (length xs) most) (nat_le 1 next && (each && each_pair test xs)) e in
    let b = and_parts (nat_le 1 next) (each && each_pair test xs) a.1 in
    let d = and_parts each (each_pair test xs) b.1 in
    record {
      few = leb-true (length xs) most a.0;
      each = each_take (λ x. is_given next (number x)) (λ x. IsGiven next (number x)) (λ x. given_takes next (number x)) xs d.0;
      pairs = pairs_take t xs d.1;
      next = record { some = leb-true 1 next b.0; fits = fits };
    }

numbered_again : {X : Type 0} {test : X → X → Bool} {R : X → X → Type 0} → Tests test R → (most : ℕ) (number : X → ℕ) (next : ℕ) (xs : List X)
    → AreNumbered most number R next xs → are_numbered most number test next xs ≡ true
unfolding are_numbered
numbered_again t most number next xs h =
    and_from _ _ (le-leb (length xs) most h.few)
    (and_from _ _ (le-leb 1 next h.next.some)
    (and_from _ _ (each_again (λ x. is_given next (number x)) (λ x. IsGiven next (number x)) (λ x. given_again next (number x)) xs h.each) (pairs_again t xs h.pairs)))

pub numbered_exactly : {X : Type 0} {test : X → X → Bool} {R : X → X → Type 0} → Tests test R → (most : ℕ) (number : X → ℕ) (next : ℕ) (xs : List X) → next ≤ 4294967295
    → (are_numbered most number test next xs ≡ true) ↔ AreNumbered most number R next xs
numbered_exactly t most number next xs fits = (numbered_take t most number next xs fits, numbered_again t most number next xs)
