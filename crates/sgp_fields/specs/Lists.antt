-- Reading a list whose entries are elements, to the end of the bytes.
use Rattle.std.specs.Prelude.{ℕ, zero, suc, List, [], ◌∷◌, Option, Some, None}
use Rattle.sgp_der.specs.Fields.{◌>>=◌, part_at}

-- at most so many entries, each read from its tag and content
unfoldable pub list_at : {X : Type 0} → (ℕ → List ℕ → Option X) → ℕ → List ℕ → Option (List X)
list_at entry n [] = Some []
list_at entry zero (b ∷ bs) = None
list_at entry (suc n) (b ∷ bs) = do
  p ← part_at (b ∷ bs)
  x ← entry p.tag p.content
  xs ← list_at entry n p.rest
  Some (x ∷ xs)

-- a list that isn't empty
abbrev pub some_of : {X : Type 0} → List X → Option (List X)
some_of [] = None
some_of (x ∷ xs) = Some (x ∷ xs)
