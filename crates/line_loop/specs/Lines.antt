-- The lines of octets, and what was taken of them.
use Rattle.std.specs.Prelude.{◌≡◌, ◌≢◌, ℕ, ◌+◌, ◌≤◌, ◌==◌, ◌⊎◌, List, [], ◌∷◌, ◌++◌, length, if◌then◌else◌, Option, Some, Result, Ok, Err}
use Rattle.std.specs.List.{flat_map}
use Rattle.iot_bytes.specs.Lines.{NoBreak, Came, LineLeft}
use Rattle.line_loop.specs.declared.reading.TheConstants.{MOST_LINES, MOST_OCTETS}
use Rattle.line_loop.specs.declared.halt.NoLine.{NoLine}
use Rattle.line_loop.specs.declared.halt.NoLine.TheVariants.{End, Fault, Limit, NoMemory}

-- An octet before the first of these lines.
abbrev pub put_first : ℕ → List (List ℕ) → List (List ℕ)
put_first b [] = (b ∷ []) ∷ []
put_first b (l ∷ ls) = (b ∷ l) ∷ ls

-- The lines of octets: each ends before 0A, and the last one may end with the octets.
unfoldable pub lines_of : List ℕ → List (List ℕ)
lines_of [] = []
lines_of (b ∷ bs) = if b == 10 then [] ∷ lines_of bs else put_first b (lines_of bs)

-- A line with its end.
abbrev pub ended : List ℕ → List ℕ
ended line = line ++ 10 ∷ []

-- The octets of these lines, each with its end.
abbrev pub lined : List (List ℕ) → List ℕ
lined ls = flat_map ended ls

-- A line within its limit.
abbrev pub IsShort : List ℕ → Type 0
IsShort line = length line ≤ MOST_OCTETS

-- These octets begin with this line, which is within its limit, and it alone was taken: up to the first 0A, or to
-- the end of the octets.
pub record IsTaken (line octets rest : List ℕ) : Type 0 where
  pub short : IsShort line
  pub unbroken : NoBreak line
  pub parts : (octets ≡ line ++ 10 ∷ rest) ⊎ ((line ≢ []) × (octets ≡ line) × (rest ≡ []))

-- These octets begin with these lines, each within its limit, and they alone were taken.
abbrev pub AreTaken : List (List ℕ) → List ℕ → List ℕ → Type 0
AreTaken [] octets rest = octets ≡ rest
AreTaken (line ∷ ls) octets rest = (behind : List ℕ) × IsTaken line octets behind × AreTaken ls behind rest

-- These octets begin with a line within its limit, and it alone was taken.
pub record HasLine (octets : List ℕ) (left : Option (List ℕ)) : Type 0 where
  pub line : List ℕ
  pub rest : List ℕ
  pub taken : IsTaken line octets rest
  pub now : left ≡ Some rest

-- These octets begin with one octet more than a line may have, without 0A, and they alone were taken.
pub record IsTooLong (octets : List ℕ) (left : Option (List ℕ)) : Type 0 where
  pub front : List ℕ
  pub over : length front ≡ MOST_OCTETS + 1
  pub came : Came octets front left

-- Why there is no further line behind so many, and what was taken of the octets that follow them: all where the
-- input ends; of the next line alone where the source failed or memory is wanting.
abbrev pub NoLineAt : ℕ → List ℕ → Option (List ℕ) → NoLine → Type 0
NoLineAt count octets left End = (octets ≡ []) × (left ≡ Some [])
NoLineAt count octets left Fault = LineLeft octets MOST_OCTETS left
NoLineAt count octets left Limit = IsTooLong octets left ⊎ ((count ≡ MOST_LINES) × HasLine octets left)
NoLineAt count octets left NoMemory = LineLeft octets MOST_OCTETS left

-- The next line behind so many, or why there is none.
abbrev pub NextLine : ℕ → Option (List ℕ) → Option (List ℕ) → Result (List ℕ) NoLine → Type 0
NextLine count old now (Ok line) = (octets : List ℕ) → old ≡ Some octets → (rest : List ℕ) × IsTaken line octets rest × (now ≡ Some rest)
NextLine count old now (Err stop) = (octets : List ℕ) → old ≡ Some octets → NoLineAt count octets now stop

-- Why there is no line behind the most lines of a run.
abbrev pub NoFurther : Option (List ℕ) → Option (List ℕ) → NoLine → Type 0
NoFurther old now stop = (octets : List ℕ) → old ≡ Some octets → NoLineAt MOST_LINES octets now stop

-- An input that is told begins with these lines, each within its limit, and this holds of what follows them.
abbrev pub HasTaken : Option (List ℕ) → List (List ℕ) → (List ℕ → Type 0) → Type 0
HasTaken old ls P = (input : List ℕ) → old ≡ Some input → (tail : List ℕ) × AreTaken ls input tail × P tail
