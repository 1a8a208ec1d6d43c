-- A text that is parted at the first mark.
use Rattle.std.proofs.Common.{◌≡◌, ℕ, suc, ◌<◌, ◌≤◌, ◌+◌, ◌-◌, Bool, true, false, cond, List, [], ◌∷◌, length, take, drop, Some, None, refl, sym, ap, ◌∙◌, arith}
use Rattle.std.specs.Prelude.{◌==◌}
use Rattle.std.specs.List.{position, position_from}
use Rattle.std.proofs.lemmas.List.{take_rest}
use Rattle.std.proofs.lemmas.Iterator.Adapters.{position_from-zero}
use Rattle.iot_schedule.specs.Tokens.{before, behind}

-- where the first mark is counted from n
pub record IsParted (mark n : ℕ) (text : List ℕ) (at : ℕ) : Type 0 where
  pub from : n ≤ at
  pub within : at < n + length text
  pub front : take (at - n) text ≡ before mark text
  pub rest : Some (drop (at - n + 1) text) ≡ behind mark text

mutual_at : (mark n at b : ℕ) (bs : List ℕ) (test : Bool) → (b == mark) ≡ test → cond test (Some n) (position_from (λ b. b == mark) (n + 1) bs) ≡ Some at → ((m : ℕ) → position_from (λ b. b == mark) m bs ≡ Some at → IsParted mark m bs at) → IsParted mark n (b ∷ bs) at
unfolding before behind
mutual_at mark n at b bs true is e go =
    let same : n ≡ at = cc in
    record {
      from = omega arith;
      within = omega arith;
      front = let z : at - n ≡ 0 = omega arith in rw z (rw is refl);
      rest = let z : at - n + 1 ≡ 1 = omega arith in rw z (rw is refl);
    }
mutual_at mark n at b bs false is e go =
    let h = go (n + 1) e in
    let s : at - n ≡ suc (at - (n + 1)) = omega (arith, h.from) in
    let t : at - n + 1 ≡ suc (at - (n + 1) + 1) = omega (arith, h.from) in
    record {
      from = omega (arith, h.from);
      within = omega (arith, h.within);
      front = rw s (rw is (ap (λ (xs : List ℕ). b ∷ xs) h.front));
      rest = rw t (rw is h.rest);
    }

parted_from : (mark n at : ℕ) (text : List ℕ) → position_from (λ b. b == mark) n text ≡ Some at → IsParted mark n text at
parted_from mark n at [] e = absurd cc
parted_from mark n at (b ∷ bs) e = mutual_at mark n at b bs (b == mark) refl e (λ m e1. parted_from mark m at bs e1)

-- no mark stands in the text
pub record IsWhole (mark : ℕ) (text : List ℕ) : Type 0 where
  pub front : text ≡ before mark text
  pub rest : behind mark text ≡ None

whole_at : (mark n b : ℕ) (bs : List ℕ) (test : Bool) → (b == mark) ≡ test → cond test (Some n) (position_from (λ b. b == mark) (n + 1) bs) ≡ None → (position_from (λ b. b == mark) (n + 1) bs ≡ None → IsWhole mark bs) → IsWhole mark (b ∷ bs)
unfolding before behind
whole_at mark n b bs true is e go = absurd cc
whole_at mark n b bs false is e go =
    let h = go e in
    record { front = rw is (ap (λ (xs : List ℕ). b ∷ xs) h.front); rest = rw is h.rest }

whole_from : (mark n : ℕ) (text : List ℕ) → position_from (λ b. b == mark) n text ≡ None → IsWhole mark text
unfolding before behind
whole_from mark n [] e = record { front = refl; rest = refl }
whole_from mark n (b ∷ bs) e = whole_at mark n b bs (b == mark) refl e (λ e1. whole_from mark (n + 1) bs e1)

found : (mark at : ℕ) (text : List ℕ) → Some at ≡ position (λ b. b == mark) text → IsParted mark 0 text at
found mark at text e = parted_from mark 0 at text (sym (e ∙ position_from-zero (λ b. b == mark) text))

-- what stands before the mark that was found
pub front_found : (mark at : ℕ) (text : List ℕ) → Some at ≡ position (λ b. b == mark) text → take at text ≡ before mark text
front_found mark at text e =
    let same : at - 0 ≡ at = omega arith in
    sym (ap (λ (n : ℕ). take n text) same) ∙ (found mark at text e).front

-- what stands behind it
pub rest_found : (mark at : ℕ) (text : List ℕ) → Some at ≡ position (λ b. b == mark) text → behind mark text ≡ Some (take (length text - (at + 1)) (drop (at + 1) text))
rest_found mark at text e =
    let same : at - 0 + 1 ≡ at + 1 = omega arith in
    sym (found mark at text e).rest ∙ ap (λ (n : ℕ). Some (drop n text)) same ∙ sym (ap (λ (t : List ℕ). Some t) (take_rest text (at + 1)))

-- where no mark was found
pub rest_missing : (mark : ℕ) (text : List ℕ) → None ≡ position (λ b. b == mark) text → behind mark text ≡ None
rest_missing mark text e = (whole_from mark 0 text (sym (e ∙ position_from-zero (λ b. b == mark) text))).rest

pub front_missing : (mark : ℕ) (text : List ℕ) → None ≡ position (λ b. b == mark) text → text ≡ before mark text
front_missing mark text e = (whole_from mark 0 text (sym (e ∙ position_from-zero (λ b. b == mark) text))).front

pub ruleset parting = (front_found, rest_found, rest_missing, front_missing)
