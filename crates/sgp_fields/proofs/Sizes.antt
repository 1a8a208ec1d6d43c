-- How many octets fields, records and lists have at most.
use Rattle.std.proofs.Common.{ℕ, ◌+◌, ◌*◌, ◌/◌, ◌%◌, ◌<◌, ◌≤◌, List, [], ◌∷◌, length, ap, arith, inl, inr, length-append}
use Rattle.std.specs.List.{flat_map}
use Rattle.std.proofs.Math.Nat.{suc-mul}
use Rattle.std.proofs.lemmas.Bool.{cases_lt}
use Rattle.std.proofs.lemmas.Bool.Decides.{nat_tests}
use Rattle.sgp_der.specs.Element.{element, len_octets}
use Rattle.sgp_der.specs.Number.{uint}
use Rattle.sgp_der.proofs.Elements.{length-element}
use Rattle.sgp_der.proofs.Values.{uint_low, uint_step}
use Rattle.small_card.specs.Lists.{Every}

octets_short : (n : ℕ) → n ≤ 127 → length (len_octets n) ≤ 1
unfolding len_octets
octets_short n le = grind (arith, nat_tests)

octets_middle : (n : ℕ) → n ≤ 255 → length (len_octets n) ≤ 2
unfolding len_octets
octets_middle n le = grind (arith, nat_tests)

octets_long : (n : ℕ) → n ≤ 65535 → length (len_octets n) ≤ 3
unfolding len_octets
octets_long n le = grind (arith, nat_tests)

-- an element whose content is short
pub short : (tag : ℕ) (content : List ℕ) (most : ℕ) → length content ≤ most → most ≤ 127 → length (element tag content) ≤ most + 2
short tag content most few le = omega (arith, length-element tag content, octets_short (length content) (omega arith))

pub middle : (tag : ℕ) (content : List ℕ) (most : ℕ) → length content ≤ most → most ≤ 255 → length (element tag content) ≤ most + 3
middle tag content most few le = omega (arith, length-element tag content, octets_middle (length content) (omega arith))

pub long : (tag : ℕ) (content : List ℕ) (most : ℕ) → length content ≤ most → most ≤ 65535 → length (element tag content) ≤ most + 4
long tag content most few le = omega (arith, length-element tag content, octets_long (length content) (omega arith))

-- numbers below `b` have at most m octets
Below : ℕ → ℕ → Type 0
Below b m = (n : ℕ) → n < b → length (uint n) ≤ m

-- one octet more for 256 times as many numbers
more : (b m : ℕ) → Below b m → 1 ≤ m → Below (b * 256) (m + 1)
unfolding Below
more b m few some n lt =
    elim (cases_lt n 128) [
      | inl low ↦ omega (arith, ap length (uint_low n low))
      | inr high ↦
          let less : n / 256 < b = omega arith in
          omega (arith, ap length (uint_step n high), length-append (uint (n / 256)) (n % 256 ∷ []), few (n / 256) less)
    ]

one : Below 128 1
unfolding Below
one n lt = omega (arith, ap length (uint_low n lt))

five : Below 549755813888 5
five = more 2147483648 4 (more 8388608 3 (more 32768 2 (more 128 1 one (omega arith)) (omega arith)) (omega arith)) (omega arith)

eight : Below 9223372036854775808 8
eight = more 36028797018963968 7 (more 140737488355328 6 (more 549755813888 5 five (omega arith)) (omega arith)) (omega arith)

pub code_few : (n : ℕ) → n ≤ 127 → length (uint n) ≤ 1
unfolding Below
code_few n le = one n (omega arith)

pub number_few : (n : ℕ) → n ≤ 4294967295 → length (uint n) ≤ 5
unfolding Below
number_few n le = five n (omega arith)

pub counter_few : (n : ℕ) → n ≤ 9223372036854775807 → length (uint n) ≤ 8
unfolding Below
counter_few n le = eight n (omega arith)

-- a list of entries of at most so many octets
pub flat_few : {X : Type 0} (spell : X → List ℕ) (P : X → Type 0) (most : ℕ) → ((x : X) → P x → length (spell x) ≤ most) → (xs : List X) → Every P xs → length (flat_map spell xs) ≤ length xs * most
flat_few spell P most one [] h = omega arith
flat_few spell P most one (x ∷ xs) h =
    let more = flat_few spell P most one xs h.1 in
    omega (arith, length-append (spell x) (flat_map spell xs), one x h.0, suc-mul (length xs) most)
