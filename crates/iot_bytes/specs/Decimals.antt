-- Numbers as decimal digits: std's `decimal n` has the digits of n, the most significant first.
use Rattle.std.specs.Prelude.{◌≡◌, ℕ, ◌^◌, ◌<◌, List, [], ◌∷◌, length, Option, MatchOption}
use Rattle.std.specs.Fmt.{decimal}
use Rattle.std.specs.Str.Parse.{AllDigits, digits_value}

-- the token is the decimal of this number, which fits 64 bits
abbrev pub IsDecimal : List ℕ → ℕ → Type 0
IsDecimal token n = (n < 2 ^ 64) × (token ≡ decimal n)

-- reading answers the number whose decimal the token is, and none exactly where there is no such number
abbrev pub ReadsDecimal : List ℕ → Option ℕ → Type 0
ReadsDecimal token answer = MatchOption answer ((n : ℕ) → ¬ IsDecimal token n) (IsDecimal token)

-- the token has digits alone, which have this value, and a leading zero only where nothing follows
pub record HasDecimalForm (token : List ℕ) (n : ℕ) : Type 0 where
  pub some : 0 < length token
  pub digits : AllDigits 10 token
  pub lead : (rest : List ℕ) → token ≡ 48 ∷ rest → rest ≡ []
  pub value : digits_value 10 token ≡ n
