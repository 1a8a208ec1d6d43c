-- A line ends before the octet 0A or at the end of the octets.
use Rattle.std.specs.Prelude.{◌≡◌, ◌≢◌, ℕ, ◌+◌, ◌≤◌, ◌⊎◌, List, [], ◌∷◌, ◌++◌, length, Option, Some}
use Rattle.std.specs.List.{AllByRecursion}
use Rattle.iot_bytes.specs.declared.line.Next.{Next}
use Rattle.iot_bytes.specs.declared.line.Next.TheVariants.{Octet, Over, Fault}
use Rattle.iot_bytes.specs.declared.line.LineEnd.{LineEnd}
use Rattle.iot_bytes.specs.declared.line.LineEnd.TheVariants.{Line, End, TooLong, ReadFault, NoMemory}

-- no octet of the line is 0A
abbrev pub NoBreak : List ℕ → Type 0
NoBreak line = AllByRecursion (λ b. b ≢ 10) line

-- these octets without a break came, and those stay
abbrev pub Came : List ℕ → List ℕ → Option (List ℕ) → Type 0
Came bytes front left = NoBreak front × (rest : List ℕ) × (bytes ≡ front ++ rest) × (left ≡ Some rest)

-- the octets taken are the front, and none is from behind this line
abbrev pub LineLeft : List ℕ → ℕ → Option (List ℕ) → Type 0
LineLeft bytes most left = (front : List ℕ) × (length front ≤ most) × Came bytes front left

-- what reading a line answers at these octets, and what it leaves
abbrev pub LineGives : List ℕ → ℕ → LineEnd → Option (List ℕ) → Type 0
LineGives bytes limit (Line l) left = (length l ≤ limit) × NoBreak l × (((rest : List ℕ) × (bytes ≡ l ++ 10 ∷ rest) × (left ≡ Some rest)) ⊎ ((l ≢ []) × (bytes ≡ l) × (left ≡ Some [])))
LineGives bytes limit End left = (bytes ≡ []) × (left ≡ Some [])
LineGives bytes limit TooLong left = (front : List ℕ) × (length front ≡ limit + 1) × Came bytes front left
LineGives bytes limit ReadFault left = LineLeft bytes limit left
LineGives bytes limit NoMemory left = LineLeft bytes limit left

-- the next octet, or the end
abbrev pub NextGives : List ℕ → Next → Option (List ℕ) → Type 0
NextGives bytes (Octet b) left = (rest : List ℕ) × (bytes ≡ b ∷ rest) × (left ≡ Some rest)
NextGives bytes Over left = (bytes ≡ []) × (left ≡ Some [])
NextGives bytes Fault left = left ≡ Some bytes

-- the octets alone decide this end: it is neither a fault of the source nor want of memory
abbrev pub IsLineDecided : LineEnd → Type 0
IsLineDecided (Line l) = Unit {0}
IsLineDecided End = Unit {0}
IsLineDecided TooLong = Unit {0}
IsLineDecided ReadFault = ⊥
IsLineDecided NoMemory = ⊥
