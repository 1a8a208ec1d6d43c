-- One number, one content: an integer that is read was written so, and one that is written is read again.
use Rattle.std.proofs.Common.{◌≡◌, ℕ, zero, suc, ◌+◌, ◌*◌, ◌/◌, ◌%◌, ◌^◌, ◌<◌, ◌≤◌, Bool, true, false, cond, ltb, List, [], ◌∷◌, ◌++◌, length, get_or, Option, Some, None, refl, sym, ap, ◌∙◌, arith, append_assoc, inl, inr}
use Rattle.std.proofs.lemmas.Bool.{le-ltb, lt-ltb, cases_lt}
use Rattle.std.proofs.lemmas.Bool.Decides.{nat_tests}
use Rattle.std.proofs.lemmas.List.{append-nil}
use Rattle.std.proofs.lemmas.Int.Digits.{digits_of_step, number_digits_of, first_digits_of, length-digits_of-le}
use Rattle.std.proofs.Math.Nat.{pow-le-pow_right}
use Rattle.std.specs.Int.Digits.{digits_of, AllBelowBase}
use Rattle.iot_bytes.proofs.Framing.{IsBytes}
use Rattle.sgp_der.specs.Number.{value_from, IsShortest, IsUint, with_sign, uint, is_shortest, below_limit, uint_of}

-- the test says what the relation says
pub shortest_true : (content : List ℕ) → is_shortest content ≡ true → IsShortest content
shortest_true [] e = absurd cc
shortest_true (a ∷ []) e = grind (arith, nat_tests)
shortest_true (a ∷ b ∷ rest) e = (grind (arith, nat_tests), λ z. grind (arith, nat_tests))

pub true_shortest : (content : List ℕ) → IsShortest content → is_shortest content ≡ true
true_shortest [] s = absurd s
true_shortest (a ∷ []) s = grind (arith, nat_tests)
true_shortest (zero ∷ b ∷ rest) s =
    let high : 128 ≤ b = s.1 refl in
    grind (arith, nat_tests)
true_shortest (suc a ∷ b ∷ rest) s =
    let low : suc a < 128 = s.0 in
    grind (arith, nat_tests)

test_some : (b : Bool) (r : Option ℕ) (n : ℕ) → cond b r None ≡ Some n → (b ≡ true) × (r ≡ Some n)
test_some true r n e = (refl, e)
test_some false r n e = absurd cc

limit_some : (m n : ℕ) → below_limit m ≡ Some n → (m ≡ n) × (n < 2 ^ 64)
limit_some m n e = grind (arith, nat_tests)

limit_again : (n : ℕ) → n < 2 ^ 64 → below_limit n ≡ Some n
limit_again n lt = grind (arith, nat_tests)

pub uint_of_is : (content : List ℕ) (n : ℕ) → uint_of content ≡ Some n → IsUint content n × (n < 2 ^ 64)
unfolding uint_of
uint_of_is content n e =
    let a = test_some (is_shortest content) (below_limit (value_from 0 content)) n e in
    let b = limit_some (value_from 0 content) n a.1 in
    (record { shortest = shortest_true content a.0; value = b.0 }, b.1)

pub is_uint_of : (content : List ℕ) (n : ℕ) → IsUint content n → n < 2 ^ 64 → uint_of content ≡ Some n
unfolding uint_of
is_uint_of content n is lt = rw (true_shortest content is.shortest, is.value) (limit_again n lt)

-- the digits of a number before other digits
one_digit : (d : ℕ) → 0 < d → d < 256 → digits_of 256 d ≡ d ∷ []
one_digit d some small =
    let high : d / 256 ≡ 0 = omega arith in
    let low : d % 256 ≡ d = omega arith in
    digits_of_step 256 d (omega arith) some ∙ rw (high, low) refl

digits_after : (m : ℕ) (xs : List ℕ) → IsBytes xs → 0 < m → digits_of 256 (value_from m xs) ≡ digits_of 256 m ++ xs
digits_after m [] fits some = sym (append-nil _)
digits_after m (b ∷ bs) fits some =
    let small : b < 256 = fits 0 in
    let high : (m * 256 + b) / 256 ≡ m = omega arith in
    let low : (m * 256 + b) % 256 ≡ b = omega arith in
    let step : digits_of 256 (m * 256 + b) ≡ digits_of 256 m ++ (b ∷ []) = digits_of_step 256 (m * 256 + b) (omega arith) (omega arith) ∙ rw (high, low) refl in
    digits_after (m * 256 + b) bs (λ i. fits (suc i)) (omega arith) ∙ rw (step, append_assoc) refl

digits_again : (a : ℕ) (xs : List ℕ) → IsBytes (a ∷ xs) → 0 < a → digits_of 256 (value_from 0 (a ∷ xs)) ≡ a ∷ xs
digits_again a xs fits some =
    let small : a < 256 = fits 0 in
    let plain : 0 * 256 + a ≡ a = omega arith in
    ap (λ (k : ℕ). digits_of 256 (value_from k xs)) plain ∙ digits_after a xs (λ i. fits (suc i)) some ∙ ap (λ (ds : List ℕ). ds ++ xs) (one_digit a some small)

-- the one content of a number
content_is : (content : List ℕ) → IsBytes content → IsShortest content → content ≡ uint (value_from 0 content)
unfolding uint
content_is [] fits s = absurd s
content_is (zero ∷ []) fits s = refl
content_is (suc a ∷ []) fits s =
    let low : ltb (suc a) 128 ≡ true = lt-ltb _ _ s in
    rw (digits_again (suc a) [] fits (omega arith), low) refl
content_is (zero ∷ b ∷ rest) fits s =
    let high : 128 ≤ b = s.1 refl in
    let test : ltb b 128 ≡ false = le-ltb _ _ high in
    rw (digits_again b rest (λ i. fits (suc i)) (omega arith), test) refl
content_is (suc a ∷ b ∷ rest) fits s =
    let low : ltb (suc a) 128 ≡ true = lt-ltb _ _ s.0 in
    rw (digits_again (suc a) (b ∷ rest) fits (omega arith), low) refl

pub uint_only : (content : List ℕ) (n : ℕ) → IsBytes content → IsUint content n → content ≡ uint n
uint_only content n fits is = content_is content fits is.shortest ∙ ap uint is.value

pub one_content : (a b : List ℕ) (n : ℕ) → IsBytes a → IsBytes b → IsUint a n → IsUint b n → a ≡ b
one_content a b n fits_a fits_b is_a is_b = uint_only a n fits_a is_a ∙ sym (uint_only b n fits_b is_b)

-- the content of a number is one of its spellings
shortest_first : (d : ℕ) (ds : List ℕ) → 0 < d → d < 128 → IsShortest (d ∷ ds)
shortest_first d [] some low = low
shortest_first d (e ∷ es) some low = (low, λ z. absurd (omega arith))

signed_is : (ds : List ℕ) (n : ℕ) → value_from 0 ds ≡ n → (1 ≤ length ds → 0 < get_or ds 0 0) → IsUint (with_sign ds) n
signed_is [] n value first = record { shortest = omega arith; value = value }
signed_is (d ∷ ds) n value first =
    elim (cases_lt d 128) [
      | inl low ↦ rw (lt-ltb d 128 low) (record { shortest = shortest_first d ds (first (omega arith)) low; value = value })
      | inr high ↦ rw (le-ltb d 128 high) (record { shortest = (omega arith, λ _. high); value = value })
    ]

pub uint_is : (n : ℕ) → IsUint (uint n) n
unfolding uint
uint_is zero = record { shortest = omega arith; value = refl }
uint_is (suc n) = signed_is (digits_of 256 (suc n)) (suc n) (number_digits_of 256 (suc n) (omega arith)) (λ _. first_digits_of 256 (suc n) (omega arith) (omega arith))

pub below_bytes : (ds : List ℕ) → AllBelowBase 256 ds → IsBytes ds
below_bytes [] all i = omega arith
below_bytes (d ∷ ds) all zero = all.0
below_bytes (d ∷ ds) all (suc i) = below_bytes ds all.1 i

-- the reading word, as codecs cite it
pub uint_takes : (content : List ℕ) (n : ℕ) → IsBytes content → uint_of content ≡ Some n → (content ≡ uint n) × (n < 2 ^ 64)
uint_takes content n fits e =
    let is = uint_of_is content n e in
    (uint_only content n fits is.0, is.1)

pub uint_again : (n : ℕ) → n < 2 ^ 64 → uint_of (uint n) ≡ Some n
uint_again n lt = is_uint_of (uint n) n (uint_is n) lt

-- how the content grows with the number
pub uint_low : (n : ℕ) → n < 128 → uint n ≡ n ∷ []
unfolding uint
uint_low zero low = refl
uint_low (suc n) low = rw (one_digit (suc n) (omega arith) (omega arith), lt-ltb (suc n) 128 low) refl

signed_push : (ds : List ℕ) (b : ℕ) → (ds ≡ [] → 128 ≤ b) → with_sign (ds ++ (b ∷ [])) ≡ with_sign ds ++ (b ∷ [])
signed_push [] b high = rw (le-ltb b 128 (high refl)) refl
signed_push (d ∷ ds) b high =
    elim (cases_lt d 128) [
      | inl low ↦ rw (lt-ltb d 128 low) refl
      | inr le ↦ rw (le-ltb d 128 le) refl
    ]

pub uint_step : (n : ℕ) → 128 ≤ n → uint n ≡ uint (n / 256) ++ (n % 256 ∷ [])
unfolding uint
uint_step n high =
    let none : digits_of 256 (n / 256) ≡ [] → 128 ≤ n % 256 = λ e.
    let nought : n / 256 ≡ 0 = sym (number_digits_of 256 (n / 256) (omega arith)) ∙ ap (value_from 0) e in omega arith in
    ap with_sign (digits_of_step 256 n (omega arith) (omega arith)) ∙ signed_push (digits_of 256 (n / 256)) (n % 256) none

signed_few : (ds : List ℕ) → length (with_sign ds) ≤ length ds + 1
signed_few [] = omega arith
signed_few (d ∷ ds) =
    elim (cases_lt d 128) [
      | inl low ↦ rw (lt-ltb d 128 low) (omega arith)
      | inr high ↦ rw (le-ltb d 128 high) (omega arith)
    ]

pub uint_few : (n : ℕ) → n < 2 ^ 64 → length (uint n) ≤ 9
unfolding uint
uint_few n lt =
    let few : length (digits_of 256 n) ≤ 8 = length-digits_of-le 256 8 n (omega arith) (omega arith) in
    omega (arith, signed_few (digits_of 256 n))

shortest_some : (content : List ℕ) → IsShortest content → 1 ≤ length content
shortest_some [] s = absurd s
shortest_some (a ∷ rest) s = omega arith

pub uint_some : (n : ℕ) → 1 ≤ length (uint n)
uint_some n = shortest_some (uint n) (uint_is n).shortest

-- what the reader of an integer cites
none_of : (o : Option ℕ) → ((n : ℕ) → o ≡ Some n → ⊥) → None ≡ o
none_of None never = refl
none_of (Some n) never = absurd (never n refl)

pub too_long : (content : List ℕ) → IsBytes content → 10 ≤ length content → (n : ℕ) → n < 2 ^ 64 → IsUint content n → ⊥
too_long content fits long n lt is = omega (arith, ap length (uint_only content n fits is), uint_few n lt)

pub too_long_of : (content : List ℕ) → IsBytes content → 10 ≤ length content → None ≡ uint_of content
too_long_of content fits long = none_of (uint_of content) (λ n e.
    let is = uint_of_is content n e in
    too_long content fits long n is.1 is.0)

pub pow_small : (i : ℕ) → i ≤ 8 → 256 ^ i ≤ 2 ^ 64
pow_small i le = pow-le-pow_right {n = 256} (omega arith) le
