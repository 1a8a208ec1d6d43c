-- A field is no longer than the record that it stands in.
use Rattle.std.proofs.Common.{ℕ, ◌≤◌, List, ◌++◌, length, arith, length-append}
use Rattle.sgp_der.specs.Element.{element}
use Rattle.sgp_der.specs.Number.{uint}
use Rattle.sgp_der.proofs.Elements.{length-element}
use Rattle.sgp_fields.specs.Alone.{number_alone}
use Rattle.sgp_fields.proofs.Sizes.{short, number_few}

-- the content of the last of two fields
pub inner_short : (first content : List ℕ) (tag : ℕ) → length (first ++ element tag content) ≤ 16777215 → length content ≤ 16777215
inner_short first content tag le = omega (arith, length-append first (element tag content), length-element tag content)

-- a content that is one number
pub alone_few : (n : ℕ) → n ≤ 4294967295 → length (number_alone n) ≤ 7
alone_few n le = short 0x80 (uint n) 5 (number_few n le) (omega arith)
