-- Reading an element from the left, with the first fault that is met.
use Rattle.std.specs.Prelude.{ℕ, ◌+◌, ◌*◌, ◌%◌, ◌==◌, nat_lt, List, [], ◌∷◌, length, take, drop, Result, Ok, Err, if◌then◌else◌}
use Rattle.sgp_der.specs.declared.element.DerFault.{DerFault}
use Rattle.sgp_der.specs.declared.element.DerFault.TheVariants.{Short, LongForm, Tag}

infixl 10 ◌>>=◌
-- the first fault that is met stands
abbrev pub ◌>>=◌ : {A B : Type 0} → Result A DerFault → (A → Result B DerFault) → Result B DerFault
(Ok x) >>= f = f x
(Err e) >>= f = Err e

-- a tag, the content and what follows
pub record Part : Type 0 where
  pub tag : ℕ
  pub content : List ℕ
  pub rest : List ℕ

-- a length that a shorter form can say is refused
abbrev pub at_least : ℕ → ℕ → List ℕ → Result (ℕ × List ℕ) DerFault
at_least least n rest = if nat_lt n least then Err LongForm else Ok (n, rest)

-- one length octet, for 128 and more
abbrev pub one_at : List ℕ → Result (ℕ × List ℕ) DerFault
one_at (a ∷ rest) = at_least 128 a rest
one_at [] = Err Short

-- two length octets, for 256 and more
abbrev pub two_at : List ℕ → Result (ℕ × List ℕ) DerFault
two_at (a ∷ b ∷ rest) = at_least 256 (a * 256 + b) rest
two_at (a ∷ []) = Err Short
two_at [] = Err Short

-- three length octets, for 65,536 and more
abbrev pub three_at : List ℕ → Result (ℕ × List ℕ) DerFault
three_at (a ∷ b ∷ c ∷ rest) = at_least 65536 (a * 65536 + b * 256 + c) rest
three_at (a ∷ b ∷ []) = Err Short
three_at (a ∷ []) = Err Short
three_at [] = Err Short

-- a length and the octets after it; 80 (no definite length) and more than three length octets are refused
unfoldable pub len_at : List ℕ → Result (ℕ × List ℕ) DerFault
len_at [] = Err Short
len_at (first ∷ rest) =
    if nat_lt first 128 then Ok (first, rest)
    else if first == 129 then one_at rest
    else if first == 130 then two_at rest
    else if first == 131 then three_at rest
    else Err LongForm

-- the element at the front: its tag is looked at first, then its length, then whether the content is there
unfoldable pub element_at : List ℕ → Result Part DerFault
element_at [] = Err Short
element_at (tag ∷ after) =
    if tag % 32 == 31 then Err Tag else do
      len ← len_at after
      if nat_lt (length len.1) len.0 then Err Short else Ok (record { tag = tag; content = take len.0 len.1; rest = drop len.0 len.1 })
