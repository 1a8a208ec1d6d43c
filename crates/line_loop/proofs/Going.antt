-- What is read and sent, piece by piece.
use Rattle.std.proofs.Common.{◌≡◌, ℕ, List, [], ◌∷◌, ◌++◌, Option, Some, refl}
use Rattle.line_loop.specs.Lines.{IsTaken, AreTaken, HasTaken}

-- one more line was taken
pub taken_push : (ls : List (List ℕ)) (l octets mid rest : List ℕ) → AreTaken ls octets mid → IsTaken l mid rest → AreTaken (ls ++ l ∷ []) octets rest
taken_push [] l octets mid rest before here = (rest, rw before here, refl)
taken_push (m ∷ ms) l octets mid rest before here = (before.0, before.1, taken_push ms l before.0 mid rest before.2 here)

pub taken_more : (rest0 rest rest' : Option (List ℕ)) (ls : List (List ℕ)) (l : List ℕ) → HasTaken rest0 ls (λ tail. rest ≡ Some tail)
    → ((octets : List ℕ) → rest ≡ Some octets → (behind : List ℕ) × IsTaken l octets behind × (rest' ≡ Some behind)) → HasTaken rest0 (ls ++ l ∷ []) (λ tail. rest' ≡ Some tail)
taken_more rest0 rest rest' ls l taken next = λ input is.
    let (tail, before, now) = taken input is in
    let (behind, here, then) = next tail now in
    (behind, taken_push ls l input tail behind before here, then)

pub taken_none : (rest : Option (List ℕ)) → HasTaken rest [] (λ tail. rest ≡ Some tail)
taken_none rest = λ input is. (input, refl, is)
