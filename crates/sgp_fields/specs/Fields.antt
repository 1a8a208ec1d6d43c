-- Reading the fields of a record from the left, and how they are spelled.
use Rattle.std.specs.Prelude.{◌≡◌, ℕ, Bool, true, false, List, [], ◌∷◌}
use Rattle.std.specs.Prelude.{Option, Some, None, Result, Ok, Err}
use Rattle.iot_bytes.specs.declared.memory.ReadError.{ReadError}
use Rattle.iot_bytes.specs.declared.memory.ReadError.TheVariants.{Malformed}
use Rattle.sgp_der.specs.Element.{element}
use Rattle.sgp_der.specs.Reading.{Part}
use Rattle.sgp_der.specs.Fields.{◌>>=◌, field_at, only_at, ended}

-- the value of the field of this tag at the front, and what follows
unfoldable pub value_at : {X : Type 0} → (List ℕ → Option X) → ℕ → List ℕ → Option (X × List ℕ)
value_at of tag bytes = do
  p ← field_at tag bytes
  x ← of p.content
  Some (x, p.rest)

-- the value of the field of this tag that the bytes are
unfoldable pub last_at : {X : Type 0} → (List ℕ → Option X) → ℕ → List ℕ → Option X
last_at of tag bytes = do
  content ← only_at tag bytes
  of content

-- the value of a field that was found, or none where it is left out
abbrev pub found_or_out : {X : Type 0} → (List ℕ → Option X) → List ℕ → Option Part
    → Option (Option X × List ℕ)
found_or_out of bytes None = Some (None, bytes)
found_or_out of bytes (Some p) = do
  x ← of p.content
  Some (Some x, p.rest)

-- the value of a field that may be left out, and what follows
unfoldable pub optional_at : {X : Type 0} → (List ℕ → Option X) → ℕ → List ℕ
    → Option (Option X × List ℕ)
optional_at of tag bytes = found_or_out of bytes (field_at tag bytes)

-- whether the mark of this tag is all that is left, and not nothing
unfoldable pub last_mark_at : ℕ → List ℕ → Option Bool
last_mark_at tag [] = Some false
last_mark_at tag (b ∷ bs) = do
  content ← only_at tag (b ∷ bs)
  end ← ended content
  Some true

-- octets stand for themselves
abbrev pub octets : List ℕ → List ℕ
octets xs = xs

-- the spelling of a field that may be left out
abbrev pub optional : {X : Type 0} → (X → List ℕ) → ℕ → Option X → List ℕ
optional content tag None = []
optional content tag (Some x) = element tag (content x)

-- the spelling of a mark: an empty element where it is set
abbrev pub mark : ℕ → Bool → List ℕ
mark tag true = element tag []
mark tag false = []

-- what a reader took off the front, and what it left; at a fault it took nothing
abbrev pub Takes : {X : Type 0} → Result X ReadError → Option (X × List ℕ) → List ℕ → List ℕ
    → Type 0
Takes (Ok x) read old new = read ≡ Some (x, new)
Takes (Err e) read old new = (e ≡ Malformed) × (new ≡ old) × (read ≡ None)

-- what a reader found at the end; there is no other fault than octets that are no such value
abbrev pub Finds : {X : Type 0} → Result X ReadError → Option X → Type 0
Finds (Ok x) read = read ≡ Some x
Finds (Err e) read = (e ≡ Malformed) × (read ≡ None)
