-- A value and its spelling: what is read is spelled so, and what is spelled is read again.
use Rattle.std.proofs.Common.{◌≡◌, ℕ, ◌≤◌, List, ◌++◌, length, Option, Some, IfSome}
use Rattle.sgp_der.specs.Element.{element, IsTag}
use Rattle.iot_bytes.proofs.Framing.{IsBytes}
use Rattle.sgp_fields.specs.Fields.{optional}

-- contents and their values
pub record IsCodec {X : Type 0} (read : List ℕ → Option X) (spell : X → List ℕ) (Fits : X → Type 0) : Type 0 where
  pub takes : (content : List ℕ) (x : X) → IsBytes content → read content ≡ Some x → (content ≡ spell x) × Fits x
  pub again : (x : X) → Fits x → read (spell x) ≡ Some x

-- a value is spelled by one element, and is read from its tag and content
pub record IsSpelled {X : Type 0} (entry : ℕ → List ℕ → Option X) (spell : X → List ℕ) (x : X) : Type 0 where
  pub tag : ℕ
  pub content : List ℕ
  pub octets : spell x ≡ element tag content
  pub low : IsTag tag
  pub few : length content ≤ 16777215
  pub read : entry tag content ≡ Some x

-- the element of a tag and a content is the value's spelling, and the value is in range
pub record IsTaken {X : Type 0} (spell : X → List ℕ) (Fits : X → Type 0) (tag : ℕ) (content : List ℕ) (x : X) : Type 0 where
  pub octets : element tag content ≡ spell x
  pub fits : Fits x

-- elements of at most three length octets, and their values
pub record IsListed {X : Type 0} (entry : ℕ → List ℕ → Option X) (spell : X → List ℕ) (Fits : X → Type 0) : Type 0 where
  pub takes : (tag : ℕ) (content : List ℕ) (x : X) → IsBytes content → length content ≤ 16777215 → entry tag content ≡ Some x → IsTaken spell Fits tag content x
  pub again : (x : X) → Fits x → IsSpelled entry spell x

-- the bytes begin with the spelling of a value, and the rest follows
pub record IsFront {X : Type 0} (spell : X → List ℕ) (Fits : X → Type 0) (bytes : List ℕ) (x : X) (rest : List ℕ) : Type 0 where
  pub parts : bytes ≡ spell x ++ rest
  pub fits : Fits x
  pub others : IsBytes rest

-- values that are read from the front, whatever follows
pub record IsPrefix {X : Type 0} (read : List ℕ → Option (X × List ℕ)) (spell : X → List ℕ) (Fits : X → Type 0) : Type 0 where
  pub takes : (bytes : List ℕ) (x : X) (rest : List ℕ) → IsBytes bytes → read bytes ≡ Some (x, rest) → IsFront spell Fits bytes x rest
  pub again : (x : X) (rest : List ℕ) → Fits x → read (spell x ++ rest) ≡ Some (x, rest)

-- the bytes begin with a field of this tag and value, and the rest follows
abbrev pub IsValue : {X : Type 0} → (X → List ℕ) → (X → Type 0) → ℕ → List ℕ → X → List ℕ → Type 0
IsValue spell Fits tag bytes x rest = IsFront (λ v. element tag (spell v)) Fits bytes x rest

-- the bytes begin with a field of this tag and value, or the field is left out
abbrev pub IsOptional : {X : Type 0} → (X → List ℕ) → (X → Type 0) → ℕ → List ℕ → Option X → List ℕ → Type 0
IsOptional {X} spell Fits tag bytes x rest = IsFront (optional spell tag) (λ (v : Option X). IfSome v Fits) bytes x rest

-- the bytes are a field of this tag and value
pub record IsLast {X : Type 0} (spell : X → List ℕ) (Fits : X → Type 0) (tag : ℕ) (bytes : List ℕ) (x : X) : Type 0 where
  pub octets : bytes ≡ element tag (spell x)
  pub fits : Fits x

-- the bytes are one element of this tag
pub record IsWhole (tag : ℕ) (bytes content : List ℕ) : Type 0 where
  pub octets : bytes ≡ element tag content
  pub within : IsBytes content
  pub few : length content ≤ 16777215
