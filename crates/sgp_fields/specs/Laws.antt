-- What holds of values and their spellings.
use Rattle.std.specs.Prelude.{◌≡◌, ℕ, List, ◌++◌, Option, Some}
use Rattle.std.specs.List.{AllPass}
use Rattle.sgp_values.specs.Ranges.{is_octet}

-- each is an octet
abbrev pub AreOctets : List ℕ → Type 0
AreOctets bytes = AllPass is_octet bytes

-- octets that are read as a value are its spelling, and the value is in range
abbrev pub ReadsSpelled : {X : Type 0} → (List ℕ → Option X) → (X → List ℕ) → (X → Type 0) → Type 0
ReadsSpelled {X} read spell Fits =
    (bytes : List ℕ) (x : X) → AreOctets bytes → read bytes ≡ Some x → Fits x × (bytes ≡ spell x)

-- a value in range is read again from its spelling
abbrev pub ReadAgain : {X : Type 0} → (List ℕ → Option X) → (X → List ℕ) → (X → Type 0) → Type 0
ReadAgain {X} read spell Fits = (x : X) → Fits x → read (spell x) ≡ Some x

-- one spelling is of one value, and no spelling is a proper prefix of another
abbrev pub OneSpelling : {X : Type 0} → (X → List ℕ) → (X → Type 0) → Type 0
OneSpelling {X} spell Fits =
    (a b : X) (x y : List ℕ) → Fits a → Fits b → spell a ++ x ≡ spell b ++ y → (a ≡ b) × (x ≡ y)

-- no value in range is spelled so
abbrev pub SpellsNone : {X : Type 0} → (X → List ℕ) → (X → Type 0) → List ℕ → Type 0
SpellsNone {X} spell Fits bytes = (x : X) → Fits x → bytes ≡ spell x → ⊥
