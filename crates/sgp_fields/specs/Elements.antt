-- Reading values that are one element each, by its tag.
use Rattle.std.specs.Prelude.{ℕ, ◌==◌, List, Option, None, if◌then◌else◌}
use Rattle.sgp_der.specs.Fields.{◌>>=◌, part_at, ended}

-- the value of the one element that the bytes are, with nothing behind it
unfoldable pub whole_at : {X : Type 0} → (ℕ → List ℕ → Option X) → List ℕ → Option X
whole_at entry bytes = do
  p ← part_at bytes
  end ← ended p.rest
  entry p.tag p.content

-- what the content is under this one tag
abbrev pub tagged_as : {X : Type 0} → ℕ → (List ℕ → Option X) → ℕ → List ℕ → Option X
tagged_as n of tag content = if tag == n then of content else None
