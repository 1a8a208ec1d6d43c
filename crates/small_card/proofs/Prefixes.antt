-- The first units of a legal history are a legal history.
use Rattle.std.proofs.Common.{◌≡◌, ℕ, ◌-◌, ◌≤◌, zero, suc, List, [], ◌∷◌, drop, length, arith, ap}
use Rattle.small_card.specs.Cards.{FullCard}
use Rattle.small_card.specs.Units.{CardUnit}
use Rattle.small_card.specs.Histories.{History, with_unit}
use Rattle.small_card.specs.Legal.{IsLegalFrom, IsLegal}
use Rattle.small_card.specs.Prefixes.{oldest, first_units}

older_legal : (start : FullCard) (n : ℕ) (us : List CardUnit) → IsLegalFrom start us → IsLegalFrom start (drop n us)
unfolding IsLegalFrom
older_legal start zero us l = l
older_legal start (suc n) [] l = l
older_legal start (suc n) (u ∷ us) l = older_legal start n us l.0

pub first_legal : (k : ℕ) (h : History) → IsLegal h → IsLegal (first_units k h)
unfolding IsLegal first_units oldest
first_legal k h l = older_legal h.start (length h.units - k) h.units l

-- one more unit leaves the first ones
pub first_more : (k : ℕ) (h : History) (u : CardUnit) → k ≤ length h.units → first_units k (with_unit h u) ≡ first_units k h
unfolding first_units with_unit oldest
first_more k h u e =
    let one : suc (length h.units) - k ≡ suc (length h.units - k) = omega arith in
    ap (λ (n : ℕ). record h { units = drop n (u ∷ h.units) }) one

-- all units are the history
pub first_all : (h : History) → first_units (length h.units) h ≡ h
unfolding first_units oldest
first_all h =
    let none : length h.units - length h.units ≡ 0 = omega arith in
    ap (λ (n : ℕ). record h { units = drop n h.units }) none
