-- The lines that were taken are the first of the octets' lines.
use Rattle.std.proofs.Common.{◌≡◌, ◌≢◌, ℕ, inl, inr, List, [], ◌∷◌, ◌++◌, refl, ap, sym, ◌∙◌}
use Rattle.std.proofs.lemmas.Bool.{ne_eqb}
use Rattle.std.specs.List.{AllByRecursion}
use Rattle.iot_bytes.specs.Lines.{NoBreak}
use Rattle.line_loop.specs.Lines.{put_first, lines_of, IsShort, IsTaken, AreTaken}

-- a line with its end before other octets
pub line_before : (l rest : List ℕ) → NoBreak l → lines_of (l ++ 10 ∷ rest) ≡ l ∷ lines_of rest
unfolding lines_of
line_before [] rest none = refl
line_before (b ∷ bs) rest none = rw (ne_eqb b 10 none.0, line_before bs rest none.1) refl

-- a line that ends with the octets
pub line_alone : (l : List ℕ) → l ≢ [] → NoBreak l → lines_of l ≡ l ∷ []
unfolding lines_of
line_alone [] some none = absurd (some refl)
line_alone (b ∷ []) some none = rw (ne_eqb b 10 none.0) refl
line_alone (b ∷ c ∷ bs) some none = rw (ne_eqb b 10 none.0) (ap (put_first b) (line_alone (c ∷ bs) (λ no. absurd cc) none.1))

pub line_first : (l octets rest : List ℕ) → IsTaken l octets rest → lines_of octets ≡ l ∷ lines_of rest
unfolding lines_of
line_first l octets rest t =
    elim t.parts [
      | inl whole ↦ ap lines_of whole ∙ line_before l rest t.unbroken
      | inr last ↦ ap lines_of last.1 ∙ line_alone l last.0 t.unbroken ∙ ap (λ (z : List ℕ). l ∷ lines_of z) (sym last.2)
    ]

-- the lines that were taken stand before those of what follows
pub lines_first : (ls : List (List ℕ)) (octets rest : List ℕ) → AreTaken ls octets rest → lines_of octets ≡ ls ++ lines_of rest
lines_first [] octets rest same = ap lines_of same
lines_first (l ∷ ls) octets rest (behind, here, others) = line_first l octets behind here ∙ ap (λ (z : List (List ℕ)). l ∷ z) (lines_first ls behind rest others)

-- the lines that were taken are within their limit
pub lines_short : (ls : List (List ℕ)) (octets rest : List ℕ) → AreTaken ls octets rest → AllByRecursion IsShort ls
lines_short [] octets rest same = tt
lines_short (l ∷ ls) octets rest (behind, here, others) = (here.short, lines_short ls behind rest others)

-- octets without a break begin the first line
pub record IsLonger (front octets : List ℕ) : Type 0 where
  pub more : List ℕ
  pub after : List (List ℕ)
  pub lines : lines_of octets ≡ (front ++ more) ∷ after

one_longer : (b : ℕ) (ls : List (List ℕ)) → (more : List ℕ) × (after : List (List ℕ)) × (put_first b ls ≡ (b ∷ more) ∷ after)
one_longer b [] = ([], [], refl)
one_longer b (l ∷ ls) = (l, ls, refl)

pub front_first : (front rest : List ℕ) → front ≢ [] → NoBreak front → IsLonger front (front ++ rest)
unfolding lines_of
front_first [] rest some none = absurd (some refl)
front_first (b ∷ []) rest some none =
    let (more, after, is) = one_longer b (lines_of rest) in
    record { more = more; after = after; lines = rw (ne_eqb b 10 none.0) is }
front_first (b ∷ c ∷ bs) rest some none =
    let longer = front_first (c ∷ bs) rest (λ no. absurd cc) none.1 in
    record { more = longer.more; after = longer.after; lines = rw (ne_eqb b 10 none.0) (ap (put_first b) longer.lines) }
