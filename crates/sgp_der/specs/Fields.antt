-- Reading fields from the left, for a reader that answers nothing at the first fault.
use Rattle.std.specs.Prelude.{◌≡◌, ℕ, ◌==◌, List, [], ◌∷◌, Option, Some, None, Result, Ok, Err, if◌then◌else◌}
use Rattle.iot_bytes.specs.declared.memory.ReadError.{ReadError}
use Rattle.iot_bytes.specs.declared.memory.ReadError.TheVariants.{Malformed, NoMemory}
use Rattle.sgp_der.specs.declared.element.DerFault.{DerFault}
use Rattle.sgp_der.specs.Reading.{Part, element_at}

infixl 10 ◌>>=◌
-- what the second reader makes of what the first found
abbrev pub ◌>>=◌ : {A B : Type 0} → Option A → (A → Option B) → Option B
(Some x) >>= f = f x
None >>= f = None

-- what a reader answers is what the bytes read as, unless memory ran out
abbrev pub Gives : {X : Type 0} → Result X ReadError → Option X → Type 0
Gives (Ok x) read = read ≡ Some x
Gives (Err Malformed) read = read ≡ None
Gives (Err NoMemory) read = Unit {0}

-- what was read, whatever the fault was
abbrev pub part_of : Result Part DerFault → Option Part
part_of (Ok p) = Some p
part_of (Err e) = None

-- the element at the front, and what follows
abbrev pub part_at : List ℕ → Option Part
part_at bytes = part_of (element_at bytes)

-- the part, where it has this tag
abbrev pub tagged : ℕ → Part → Option Part
tagged tag p = if p.tag == tag then Some p else None

-- the element of this tag at the front, and what follows
unfoldable pub field_at : ℕ → List ℕ → Option Part
field_at tag bytes = part_at bytes >>= tagged tag

-- no octet is left
abbrev pub ended : List ℕ → Option (Unit {0})
ended [] = Some tt
ended (b ∷ bs) = None

-- the content of the one element of this tag that the bytes are
unfoldable pub only_at : ℕ → List ℕ → Option (List ℕ)
only_at tag bytes = do
  p ← field_at tag bytes
  end ← ended p.rest
  Some p.content
