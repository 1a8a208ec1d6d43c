-- What holds of all elements and integers.
use Rattle.std.specs.Prelude.{◌≡◌, ℕ, ◌≤◌, List, ◌++◌, length, Some, Ok}
use Rattle.std.specs.Int.Digits.{AllBelowBase}
use Rattle.sgp_der.specs.Element.{element, IsTag, SameElement}
use Rattle.sgp_der.specs.Fields.{field_at}
use Rattle.sgp_der.specs.Number.{IsUint}
use Rattle.sgp_der.specs.Reading.{element_at}
use Rattle.sgp_der.specs.declared.form.TheConstants.{MOST_CONTENT}

-- the bytes of an element determine its tag and content, and no element is a proper prefix of another
abbrev pub ElementsSplit : Type 0
ElementsSplit =
    (a b : ℕ) (c d x y : List ℕ) → IsTag a → IsTag b → length c ≤ MOST_CONTENT → length d ≤ MOST_CONTENT
    → element a c ++ x ≡ element b d ++ y → SameElement a b c d x y

-- an element is read again, whatever follows
abbrev pub ReadAgain : ℕ → List ℕ → List ℕ → Type 0
ReadAgain tag content rest = element_at (element tag content ++ rest) ≡ Ok (record { tag = tag; content = content; rest = rest })

-- the field of an element is read again, whatever follows
abbrev pub FieldAgain : ℕ → List ℕ → List ℕ → Type 0
FieldAgain tag content rest = field_at tag (element tag content ++ rest) ≡ Some (record { tag = tag; content = content; rest = rest })

-- two contents of one number are equal
abbrev pub OneContent : Type 0
OneContent = (a b : List ℕ) (n : ℕ) → AllBelowBase 256 a → AllBelowBase 256 b → IsUint a n → IsUint b n → a ≡ b
