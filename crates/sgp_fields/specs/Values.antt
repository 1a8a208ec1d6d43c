-- The values that a field's content may be.
use Rattle.std.specs.Prelude.{Bool, true, false}
use Rattle.std.specs.Prelude.{ℕ, ◌==◌, ◌&&◌, nat_le, List, Option, Some, None, if◌then◌else◌}
use Rattle.sgp_der.specs.Fields.{◌>>=◌, ended}
use Rattle.sgp_der.specs.Number.{uint, uint_of}

-- a value where the test passes
abbrev pub only_if : {X : Type 0} → Bool → X → Option X
only_if test x = if test then Some x else None

-- the number of a flag
abbrev pub flag : Bool → ℕ
flag true = 1
flag false = 0

-- the content of a flag: the integer 0 or 1
unfoldable pub flag_content : Bool → List ℕ
flag_content b = uint (flag b)

-- the flag of a number
abbrev pub flag_of_number : ℕ → Option Bool
flag_of_number n = if n == 0 then Some false else if n == 1 then Some true else None

-- the flag that a content is
unfoldable pub flag_of : List ℕ → Option Bool
flag_of content = do
  n ← uint_of content
  flag_of_number n

-- the number from the least to the greatest that an integer's content is
unfoldable pub number_of : ℕ → ℕ → List ℕ → Option ℕ
number_of least greatest content = do
  n ← uint_of content
  only_if (nat_le least n && nat_le n greatest) n

-- a mark has no content
unfoldable pub mark_of : List ℕ → Option (Unit {0})
mark_of content = ended content
