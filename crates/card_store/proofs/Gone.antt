-- The only slot whose result is gone, and the lowest free one.
use Rattle.std.proofs.Common.{◌≡◌, ◌⊎◌, inl, inr, ℕ, zero, suc, ◌+◌, ◌<◌, Bool, true, false, List, [], ◌∷◌, length, drop, get_or, refl, sym, ◌∙◌, ap, arith}
use Rattle.std.specs.Prelude.{◌-◌, Option, Some, None, position}
use Rattle.std.specs.List.{list_any}
use Rattle.std.proofs.lemmas.Bool.{or_cases, or_left, or_right, cases_order}
use Rattle.std.proofs.lemmas.List.Quantifiers.{position-Some}
use Rattle.small_card.specs.declared.types.PackageResult.{PackageResult}
use Rattle.home_codec.specs.Ordering.{somes}
use Rattle.card_store.specs.Slots.{number_in}
use Rattle.card_store.specs.Seats.{seat_at, is_free, is_gone, IsOnlyGone}
use Rattle.card_store.proofs.Keeping.{none_past}
use Rattle.card_store.proofs.Kept.{true_false}

get_or_drop : (n k : ℕ) (xs : List (Option ℕ)) → get_or (drop n xs) k None ≡ get_or xs (n + k) None
get_or_drop zero k xs = ap (λ (n : ℕ). get_or xs n None) (omega arith)
get_or_drop (suc n) k [] = refl
get_or_drop (suc n) k (x ∷ xs) = let e : suc (n + k) ≡ suc n + k = omega arith in get_or_drop n k xs ∙ ap (λ (m : ℕ). get_or (x ∷ xs) m None) e

any_number : (t : Option ℕ → Bool) (xs : List (Option ℕ)) (k : ℕ) → t None ≡ false → t (get_or xs k None) ≡ true → list_any t xs ≡ true
any_number t [] k none e = absurd (true_false e none)
any_number t (x ∷ xs) zero none e = or_left (t x) (list_any t xs) e
any_number t (x ∷ xs) (suc k) none e = or_right (t x) (list_any t xs) (any_number t xs k none e)

number_any : (t : Option ℕ → Bool) (xs : List (Option ℕ)) → list_any t xs ≡ true → (k : ℕ) × (t (get_or xs k None) ≡ true)
number_any t [] e = absurd (cc e)
number_any t (x ∷ xs) e = step (number_any t xs) (or_cases (t x) (list_any t xs) e)
  where
    step : (list_any t xs ≡ true → (k : ℕ) × (t (get_or xs k None) ≡ true)) → (t x ≡ true) ⊎ (list_any t xs ≡ true) → (k : ℕ) × (t (get_or (x ∷ xs) k None) ≡ true)
    step rest (inl f) = (0, f)
    step rest (inr f) = let k = rest f in (suc k.0, k.1)

-- the first is the only one where none follows
pub only_gone : (pending : List PackageResult) (slots : List (Option ℕ)) (at : ℕ) → position (is_gone pending) slots ≡ Some at → list_any (is_gone pending) (drop (at + 1) slots) ≡ false → IsOnlyGone pending slots at
only_gone pending slots at place none =
    let found = position-Some (is_gone pending) slots at None place in
    record { gone = found.1; alone = λ other e. by_order other e found.2 (cases_order other at) }
  where
    by_order : (other : ℕ) → is_gone pending (number_in slots other) ≡ true → ((k : ℕ) → k < at → is_gone pending (get_or slots k None) ≡ false) → (other ≡ at) ⊎ ((other < at) ⊎ (at < other)) → other ≡ at
    by_order other e before (inl same) = same
    by_order other e before (inr (inl lt)) = absurd (true_false e (before other lt))
    by_order other e before (inr (inr lt)) =
        let k = other - (at + 1) in
        let there : get_or (drop (at + 1) slots) k None ≡ number_in slots other = get_or_drop (at + 1) k slots ∙ ap (λ (n : ℕ). get_or slots n None) (omega (arith, lt)) in
        absurd (true_false (any_number (is_gone pending) (drop (at + 1) slots) k refl (ap (is_gone pending) there ∙ e)) none)

pub more_gone : (pending : List PackageResult) (slots : List (Option ℕ)) (at slot : ℕ) → position (is_gone pending) slots ≡ Some at → list_any (is_gone pending) (drop (at + 1) slots) ≡ true → IsOnlyGone pending slots slot → ⊥
more_gone pending slots at slot place more h =
    let found = position-Some (is_gone pending) slots at None place in
    let k = number_any (is_gone pending) (drop (at + 1) slots) more in
    omega (arith, h.alone at found.1, h.alone (at + 1 + k.0) (ap (is_gone pending) (sym (get_or_drop (at + 1) k.0 slots)) ∙ k.1))

pub none_gone : (pending : List PackageResult) (slots : List (Option ℕ)) (slot : ℕ) → position (is_gone pending) slots ≡ None → IsOnlyGone pending slots slot → ⊥
none_gone pending slots slot place h = true_false (any_number (is_gone pending) slots slot refl h.gone) (none_past (is_gone pending) slots place)

-- the lowest free slot is free, and those below are taken
pub record LowestFree (seats : List (Option ℕ)) (slot : ℕ) : Type 0 where
  pub within : slot < length seats
  pub free : seat_at seats slot ≡ None
  pub lower : (lower : ℕ) → lower < slot → (i : ℕ) × (seat_at seats lower ≡ Some i)

pub lowest_is : (seats : List (Option ℕ)) (slot : ℕ) → position is_free seats ≡ Some slot → LowestFree seats slot
lowest_is seats slot place =
    let found = position-Some is_free seats slot None place in
    record { within = found.0; free = free_is (seat_at seats slot) found.1; lower = λ lower lt. taken_is (seat_at seats lower) (found.2 lower lt) }
  where
    free_is : (o : Option ℕ) → is_free o ≡ true → o ≡ None
    free_is None e = refl
    free_is (Some i) e = absurd (cc e)

    taken_is : (o : Option ℕ) → is_free o ≡ false → (i : ℕ) × (o ≡ Some i)
    taken_is None e = absurd (cc e)
    taken_is (Some i) e = (i, refl)

all_taken : (seats : List (Option ℕ)) → list_any is_free seats ≡ false → length (somes seats) ≡ length seats
all_taken [] e = refl
all_taken (None ∷ ss) e = absurd (cc e)
all_taken (Some i ∷ ss) e = ap suc (all_taken ss e)

pub some_free : (seats : List (Option ℕ)) → length seats ≡ 8 → length (somes seats) < 8 → position is_free seats ≡ None → ⊥
some_free seats all few place = omega (arith, all, few, all_taken seats (none_past is_free seats place))
