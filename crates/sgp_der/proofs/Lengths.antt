-- A length that is read was spelled so, and one that is spelled is read again.
use Rattle.std.proofs.Common.{◌≡◌, ℕ, ◌<◌, ◌≤◌, List, [], ◌∷◌, ◌++◌, length, Ok, arith}
use Rattle.std.proofs.lemmas.Bool.Decides.{nat_tests}
use Rattle.iot_bytes.proofs.Framing.{IsBytes}
use Rattle.sgp_der.specs.Element.{len_octets}
use Rattle.sgp_der.specs.Reading.{len_at, one_at, two_at, three_at}
use Rattle.sgp_der.specs.declared.form.TheConstants.{MOST_CONTENT}

pub len_again : (n : ℕ) (tail : List ℕ) → n ≤ MOST_CONTENT → len_at (len_octets n ++ tail) ≡ Ok (n, tail)
unfolding len_at len_octets
len_again n tail le = grind (arith, nat_tests)

one_spelled : (a : ℕ) (rest : List ℕ) (x : ℕ × List ℕ) → a < 256 → one_at (a ∷ rest) ≡ Ok x → (129 ∷ a ∷ rest ≡ len_octets x.0 ++ x.1) × (x.0 ≤ MOST_CONTENT)
unfolding len_octets
one_spelled a rest x fits e = grind (arith, nat_tests)

two_spelled : (a b : ℕ) (rest : List ℕ) (x : ℕ × List ℕ) → a < 256 → b < 256 → two_at (a ∷ b ∷ rest) ≡ Ok x → (130 ∷ a ∷ b ∷ rest ≡ len_octets x.0 ++ x.1) × (x.0 ≤ MOST_CONTENT)
unfolding len_octets
two_spelled a b rest x fa fb e = grind (arith, nat_tests)

three_spelled : (a b c : ℕ) (rest : List ℕ) (x : ℕ × List ℕ) → a < 256 → b < 256 → c < 256 → three_at (a ∷ b ∷ c ∷ rest) ≡ Ok x → (131 ∷ a ∷ b ∷ c ∷ rest ≡ len_octets x.0 ++ x.1) × (x.0 ≤ MOST_CONTENT)
unfolding len_octets
three_spelled a b c rest x fa fb fc e = grind (arith, nat_tests)

pub len_takes : (bytes : List ℕ) (x : ℕ × List ℕ) → IsBytes bytes → len_at bytes ≡ Ok x → (bytes ≡ len_octets x.0 ++ x.1) × (x.0 ≤ MOST_CONTENT)
unfolding len_at len_octets
len_takes [] x fits e = absurd cc
len_takes (f ∷ []) x fits e = grind (arith, nat_tests)
len_takes (f ∷ a ∷ []) x fits e =
    let fa : a < 256 = fits 1 in
    let k = one_spelled a [] x fa in
    grind (arith, nat_tests, k)
len_takes (f ∷ a ∷ b ∷ []) x fits e =
    let fa : a < 256 = fits 1 in
    let fb : b < 256 = fits 2 in
    let k = one_spelled a (b ∷ []) x fa in
    let k2 = two_spelled a b [] x fa fb in
    grind (arith, nat_tests, k, k2)
len_takes (f ∷ a ∷ b ∷ c ∷ rest) x fits e =
    let fa : a < 256 = fits 1 in
    let fb : b < 256 = fits 2 in
    let fc : c < 256 = fits 3 in
    let k = one_spelled a (b ∷ c ∷ rest) x fa in
    let k2 = two_spelled a b (c ∷ rest) x fa fb in
    let k3 = three_spelled a b c rest x fa fb fc in
    grind (arith, nat_tests, k, k2, k3)

pub len_low : (n : ℕ) → n < 128 → len_octets n ≡ n ∷ []
unfolding len_octets
len_low n low = grind (arith, nat_tests)

pub len_few : (n : ℕ) → length (len_octets n) ≤ 4
unfolding len_octets
len_few n = grind (arith, nat_tests)
