-- Integers that aren't negative, in the shortest two's complement (X.690).
use Rattle.std.specs.Prelude.{◌≡◌, ℕ, ◌^◌, ◌<◌, ◌≤◌, ◌==◌, nat_lt, nat_le, Bool, false, List, [], ◌∷◌, Option, Some, None, if◌then◌else◌}
use Rattle.std.specs.Int.Digits.{number_from_digits_after, digits_of}

-- the number that octets stand for, the highest first, where `n` stands before them
abbrev pub value_from : ℕ → List ℕ → ℕ
value_from n octets = number_from_digits_after 256 n octets

-- the sign bit is 0, and no octet can be left out: a first octet 00 stands alone or before a set bit
abbrev pub IsShortest : List ℕ → Type 0
IsShortest [] = ⊥
IsShortest (first ∷ []) = first < 128
IsShortest (first ∷ second ∷ others) = (first < 128) × (first ≡ 0 → 128 ≤ second)

-- the octets are the shortest two's complement of the number
pub record IsUint (content : List ℕ) (n : ℕ) : Type 0 where
  pub shortest : IsShortest content
  pub value : value_from 0 content ≡ n

-- the digits after an octet 00, where there are none or the first bit is set
abbrev pub with_sign : List ℕ → List ℕ
with_sign [] = 0 ∷ []
with_sign (first ∷ others) = if nat_lt first 128 then first ∷ others else 0 ∷ first ∷ others

-- the content of the number: its digits in base 256, with a sign bit 0
unfoldable pub uint : ℕ → List ℕ
uint n = with_sign (digits_of 256 n)

-- the test of IsShortest
abbrev pub is_shortest : List ℕ → Bool
is_shortest [] = false
is_shortest (first ∷ []) = nat_lt first 128
is_shortest (first ∷ second ∷ others) = if first == 0 then nat_le 128 second else nat_lt first 128

-- the number where it is below 2 ^ 64
abbrev pub below_limit : ℕ → Option ℕ
below_limit n = if nat_lt n (2 ^ 64) then Some n else None

-- the number below 2 ^ 64 whose shortest two's complement the octets are
unfoldable pub uint_of : List ℕ → Option ℕ
uint_of content = if is_shortest content then below_limit (value_from 0 content) else None
