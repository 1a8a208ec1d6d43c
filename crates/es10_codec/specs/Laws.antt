-- What holds of all stop records.
use Rattle.std.specs.Prelude.{ℕ, ◌≡◌, ◌<◌, ◌^◌, List, ◌++◌}
use Rattle.es10_codec.specs.Spelling.{stopped}

-- two stop records say the same, and so does what follows each
pub record SameStop (s t n m : ℕ) (x y : List ℕ) : Type 0 where
  pub status : s ≡ t
  pub number : n ≡ m
  pub rest : x ≡ y

-- the octets of a stop record determine it, and no stop record is a proper prefix of another
abbrev pub StopsSplit : Type 0
StopsSplit =
    (s t n m : ℕ) (x y : List ℕ) → s < 2 ^ 64 → t < 2 ^ 64 → n < 2 ^ 64 → m < 2 ^ 64
    → stopped s n ++ x ≡ stopped t m ++ y → SameStop s t n m x y
