-- Octets at the front of an array, and zeros behind them.
use Rattle.std.specs.Prelude.{◌≡◌, ℕ, ◌-◌, List, ◌++◌, length, take, replicate}

-- the array has at least `len` octets, and zeros from there to its end at `n`
pub record IsPadded (n len : ℕ) (bytes : List ℕ) : Type 0 where
  pub whole : length (take len bytes) ≡ len
  pub padded : take len bytes ++ replicate (n - len) 0 ≡ bytes
