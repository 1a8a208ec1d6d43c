-- Texts in which a mark doesn't stand, and parting a text at the first one.
use Rattle.std.proofs.Common.{◌≡◌, ℕ, ◌^◌, ◌<◌, Bool, true, false, not, List, [], ◌∷◌, ◌++◌, Some, None, subst, refl, ap, ◌∙◌}
use Rattle.std.specs.Prelude.{◌==◌}
use Rattle.std.specs.List.{AllPass, list_all}
use Rattle.std.specs.Fmt.{decimal}
use Rattle.std.specs.Str.Parse.{AllDigits}
use Rattle.std.specs.Char.{digit_value}
use Rattle.std.proofs.lemmas.Bool.{eqb-true, eq-eqb, and_parts, and_from, not-true}
use Rattle.std.proofs.lemmas.List.Folds.{list_all-append}
use Rattle.std.proofs.lemmas.List.Sums.{list_all-from_AllPass}
use Rattle.hex.specs.Hex.{is_hex_digit}
use Rattle.hex.proofs.HexLemmas.{decode_of-encode_lower}
use Rattle.iot_bytes.specs.Hexes.{hex}
use Rattle.iot_bytes.proofs.HexText.{IsHex-decodes}
use Rattle.iot_bytes.proofs.Numerals.{decimal_is_digits}
use Rattle.sgp_values.specs.Ranges.{is_octet}
use Rattle.sgp_values.proofs.Octets.{bounds_from_AllPass}
use Rattle.iot_schedule.specs.Tokens.{before, behind}

-- no octet of the text is the mark
abbrev pub lacks : ℕ → List ℕ → Bool
lacks mark text = list_all (λ b. not (b == mark)) text

self_equal : (n : ℕ) → (n == n) ≡ true
self_equal n = eq-eqb n n refl

pub lacks_both : (mark : ℕ) (xs ys : List ℕ) → lacks mark xs ≡ true → lacks mark ys ≡ true → lacks mark (xs ++ ys) ≡ true
lacks_both mark xs ys x y = list_all-append (λ b. not (b == mark)) xs ys ∙ and_from (lacks mark xs) (lacks mark ys) x y

one_other : (p : ℕ → Bool) (mark b : ℕ) (test : Bool) → (b == mark) ≡ test → p mark ≡ false → p b ≡ true → not test ≡ true
one_other p mark b true is out inside = absurd (cc (ap p (eqb-true b mark is), out, inside))
one_other p mark b false is out inside = refl

-- octets that pass a test which the mark fails
pub lacks_by : (p : ℕ → Bool) (mark : ℕ) → p mark ≡ false → (xs : List ℕ) → list_all p xs ≡ true → lacks mark xs ≡ true
lacks_by p mark out [] e = refl
lacks_by p mark out (x ∷ xs) e =
    let parts = and_parts (p x) (list_all p xs) e in
    and_from (not (x == mark)) (lacks mark xs) (one_other p mark x (x == mark) refl out parts.0) (lacks_by p mark out xs parts.1)

pub lacks_passing : (p : ℕ → Bool) (mark : ℕ) → p mark ≡ false → (xs : List ℕ) → AllPass p xs → lacks mark xs ≡ true
lacks_passing p mark out xs each = lacks_by p mark out xs (list_all-from_AllPass p xs each)

-- hexadecimal digits
pub hex_lacks : (mark : ℕ) → is_hex_digit mark ≡ false → (octets : List ℕ) → AllPass is_octet octets → lacks mark (hex octets) ≡ true
hex_lacks mark out octets each =
    lacks_passing is_hex_digit mark out (hex octets) (IsHex-decodes (hex octets) octets (decode_of-encode_lower octets (bounds_from_AllPass octets each))).1

digit_other : (mark c : ℕ) → (digit_value mark < 10 → ⊥) → digit_value c < 10 → (test : Bool) → (c == mark) ≡ test → not test ≡ true
digit_other mark c out first true is = absurd (out (subst (λ (n : ℕ). digit_value n < 10) (eqb-true c mark is) first))
digit_other mark c out first false is = refl

digits_lack : (mark : ℕ) → (digit_value mark < 10 → ⊥) → (text : List ℕ) → AllDigits 10 text → lacks mark text ≡ true
digits_lack mark out [] each = refl
digits_lack mark out (c ∷ cs) (first, others) = and_from (not (c == mark)) (lacks mark cs) (digit_other mark c out first (c == mark) refl) (digits_lack mark out cs others)

-- the decimal of a number
pub decimal_lacks : (mark : ℕ) → (digit_value mark < 10 → ⊥) → (n : ℕ) → n < 2 ^ 64 → lacks mark (decimal n) ≡ true
decimal_lacks mark out n small = digits_lack mark out (decimal n) ((decimal_is_digits (decimal n) n small).0 (small, refl)).digits

not_mark : (b mark : ℕ) → not (b == mark) ≡ true → (b == mark) ≡ false
not_mark b mark e = not-true (b == mark) e

-- what stands before a mark, and behind it
pub cut_front : (mark : ℕ) (xs ys : List ℕ) → lacks mark xs ≡ true → before mark (xs ++ mark ∷ ys) ≡ xs
unfolding before
cut_front mark [] ys e = rw (self_equal mark) refl
cut_front mark (x ∷ xs) ys e =
    let parts = and_parts (not (x == mark)) (lacks mark xs) e in
    rw (not_mark x mark parts.0) (ap (λ (t : List ℕ). x ∷ t) (cut_front mark xs ys parts.1))

pub cut_rest : (mark : ℕ) (xs ys : List ℕ) → lacks mark xs ≡ true → behind mark (xs ++ mark ∷ ys) ≡ Some ys
unfolding behind
cut_rest mark [] ys e = rw (self_equal mark) refl
cut_rest mark (x ∷ xs) ys e =
    let parts = and_parts (not (x == mark)) (lacks mark xs) e in
    rw (not_mark x mark parts.0) (cut_rest mark xs ys parts.1)

pub whole_front : (mark : ℕ) (xs : List ℕ) → lacks mark xs ≡ true → before mark xs ≡ xs
unfolding before
whole_front mark [] e = refl
whole_front mark (x ∷ xs) e =
    let parts = and_parts (not (x == mark)) (lacks mark xs) e in
    rw (not_mark x mark parts.0) (ap (λ (t : List ℕ). x ∷ t) (whole_front mark xs parts.1))

pub whole_rest : (mark : ℕ) (xs : List ℕ) → lacks mark xs ≡ true → behind mark xs ≡ None
unfolding behind
whole_rest mark [] e = refl
whole_rest mark (x ∷ xs) e =
    let parts = and_parts (not (x == mark)) (lacks mark xs) e in
    rw (not_mark x mark parts.0) (whole_rest mark xs parts.1)
