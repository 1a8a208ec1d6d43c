-- The fields that keep a list of octets.
use Rattle.std.specs.Prelude.{◌≡◌, ℕ, ◌-◌, List, ◌++◌, length, take, replicate}
use Rattle.std.proofs.Common.{◌∙◌, ap}
use Rattle.sgp_values.specs.declared.bounded.Bounded.TheInside.{Inside}
use Rattle.sgp_values.specs.Padded.{IsPadded}

-- the octets with zeros up to `n`, and their number
abbrev pub kept : (n : ℕ) → List ℕ → Inside n
kept n octets = record { bytes = octets ++ replicate (n - length octets) 0; len = length octets }

-- what keeps the octets of a value is that value
pub kept_again : (n : ℕ) (a : Inside n) → IsPadded n a.len a.bytes → kept n (take a.len a.bytes) ≡ a
kept_again n a h =
    ap (λ (k : ℕ). record { bytes = take a.len a.bytes ++ replicate (n - k) 0; len = k }) h.whole
    ∙ ap (λ (x : List ℕ). record { bytes = x; len = a.len }) h.padded
