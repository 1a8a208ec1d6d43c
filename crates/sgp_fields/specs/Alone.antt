-- Contents that are one number, or that a value is made of.
use Rattle.std.specs.Prelude.{ℕ, List, Option, Some}
use Rattle.sgp_der.specs.Element.{element}
use Rattle.sgp_der.specs.Number.{uint}
use Rattle.sgp_der.specs.Fields.{◌>>=◌}
use Rattle.sgp_fields.specs.Fields.{last_at}
use Rattle.sgp_fields.specs.Values.{number_of, mark_of}

-- the value that is made of what the content is
abbrev pub made_of : {X Y : Type 0} → (List ℕ → Option X) → (X → Y) → List ℕ → Option Y
made_of of made content = do
  x ← of content
  Some (made x)

-- the content whose one field is a number
abbrev pub number_alone : ℕ → List ℕ
number_alone n = element 0x80 (uint n)

-- the number from the least to the greatest that is the one field of a content
abbrev pub number_alone_of : ℕ → ℕ → List ℕ → Option ℕ
number_alone_of least greatest content = last_at (number_of least greatest) 0x80 content

-- the value of an element without a content
abbrev pub empty_of : {X : Type 0} → X → List ℕ → Option X
empty_of x content = made_of mark_of (λ m. x) content
