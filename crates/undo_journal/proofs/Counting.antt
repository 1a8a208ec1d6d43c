-- The list of all blocks.
use Rattle.std.proofs.Common.{◌≡◌, ℕ, zero, suc, ◌+◌, ◌≤◌, ◌<◌, true, List, [], ◌∷◌, ◌++◌, refl, sym, ap, arith, inl, inr}
use Rattle.std.specs.Prelude.{ltb}
use Rattle.std.specs.List.{range_with_len}
use Rattle.std.proofs.lemmas.List.FromFn.{length-range_with_len}
use Rattle.std.proofs.lemmas.Bool.Decides.{nat_tests}
use Rattle.std.proofs.Math.Nat.{eq-or-lt_of_le}
use Rattle.undo_journal.specs.Home.{rises, AreBlocks}
use Rattle.undo_journal.specs.States.{Has}

pub range_push : (first n b : ℕ) → b ≡ first + n → range_with_len first n ++ b ∷ [] ≡ range_with_len first (suc n)
range_push first zero b is = ap (λ (x : ℕ). x ∷ []) (omega arith)
range_push first (suc n) b is = ap (λ (l : List ℕ). first ∷ l) (range_push (first + 1) n b (omega arith))

range_rises : (first n : ℕ) → first + n ≤ 673 → rises (range_with_len first n) ≡ true
range_rises first zero le = refl
range_rises first (suc zero) le = grind (arith, nat_tests)
range_rises first (suc (suc n)) le =
    let below : ltb first (first + 1) ≡ true = grind (arith, nat_tests) in
    rw (below, range_rises (first + 1) (suc n) (omega arith)) refl

range_has : (first n b : ℕ) → first ≤ b → b < first + n → Has b (range_with_len first n)
range_has first zero b le lt = absurd (omega arith)
range_has first (suc n) b le lt = elim (eq-or-lt_of_le le) [ inl same ↦ inl (sym same) | inr above ↦ inr (range_has (first + 1) n b (omega (arith, above)) (omega arith)) ]

pub all_blocks : AreBlocks (range_with_len 0 673)
all_blocks = record {
  some = omega (arith, length-range_with_len 0 673);
  few = omega (arith, length-range_with_len 0 673);
  rising = range_rises 0 673 (omega arith);
}

pub all_have : (b : ℕ) → b < 673 → Has b (range_with_len 0 673)
all_have b lt = range_has 0 673 b (omega arith) (omega arith)
