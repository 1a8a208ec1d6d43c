-- How the octets decide the end of a line.
use Rattle.std.proofs.Common.{◌≡◌, ℕ, ◌<◌, inl, inr, List, [], ◌∷◌, ◌++◌, length, Option, Some, arith, ap, sym, ◌∙◌, refl, length-append}
use Rattle.std.proofs.lemmas.List.{append-nil}
use Rattle.iot_bytes.specs.Lines.{NoBreak, LineGives, IsLineDecided}
use Rattle.iot_bytes.specs.declared.line.LineEnd.{LineEnd}
use Rattle.iot_bytes.specs.declared.line.LineEnd.TheVariants.{Line, End, TooLong, ReadFault, NoMemory}
use Rattle.iot_bytes.proofs.FrameEnds.{fronts_are_one}

-- the first break splits the octets in one way
pub breaks_split : (a b x y : List ℕ) → NoBreak a → NoBreak b → a ++ 10 ∷ x ≡ b ++ 10 ∷ y → (a ≡ b) × (x ≡ y)
breaks_split [] [] x y ha hb same = (refl, cc)
breaks_split [] (b ∷ bs) x y ha hb same = absurd (hb.0 (cc))
breaks_split (a ∷ more) [] x y ha hb same = absurd (ha.0 (cc))
breaks_split (a ∷ more) (b ∷ bs) x y ha hb same =
    let first : a ≡ b = cc in
    let after : more ++ 10 ∷ x ≡ bs ++ 10 ∷ y = cc in
    let others = breaks_split more bs x y ha.1 hb.1 after in
    (cc (first, others.0), others.1)

-- no break comes before the end of octets without one
breaks_late : (l front x y : List ℕ) → NoBreak front → length l < length front → l ++ 10 ∷ x ≡ front ++ y → ⊥
breaks_late l [] x y h less same = absurd (omega arith)
breaks_late [] (c ∷ front) x y h less same = h.0 (cc)
breaks_late (a ∷ l) (c ∷ front) x y h less same =
    let after : l ++ 10 ∷ x ≡ front ++ y = cc in
    breaks_late l front x y h.1 (omega arith) after

-- octets without a break are no line with its end
breaks_none : (l b x : List ℕ) → NoBreak b → l ++ 10 ∷ x ≡ b → ⊥
breaks_none l b x h same = breaks_late l b x [] h (omega (arith, ap length same, length-append l (10 ∷ x))) (same ∙ sym (append-nil b))

line_line : (bytes : List ℕ) (limit : ℕ) (a b : List ℕ) (left other : Option (List ℕ)) → LineGives bytes limit (Line a) left → LineGives bytes limit (Line b) other → (a ≡ b) × (left ≡ other)
line_line bytes limit a b left other (fewa, na, inl (x, e, is)) (fewb, nb, inl (y, d, at)) =
    let same = breaks_split a b x y na nb (sym e ∙ d) in
    (same.0, is ∙ ap Some same.1 ∙ sym at)
line_line bytes limit a b left other (fewa, na, inl (x, e, is)) (fewb, nb, inr (some, d, at)) = absurd (breaks_none a b x nb (sym e ∙ d))
line_line bytes limit a b left other (fewa, na, inr (some, e, is)) (fewb, nb, inl (y, d, at)) = absurd (breaks_none b a y na (sym d ∙ e))
line_line bytes limit a b left other (fewa, na, inr (some, e, is)) (fewb, nb, inr (more, d, at)) = (sym e ∙ d, is ∙ sym at)

line_end : (bytes : List ℕ) (limit : ℕ) (a : List ℕ) (left other : Option (List ℕ)) → LineGives bytes limit (Line a) left → LineGives bytes limit End other → ⊥
line_end bytes limit a left other (few, na, inl (x, e, is)) (d, at) = absurd (omega (arith, ap length (sym e ∙ d), length-append a (10 ∷ x)))
line_end bytes limit a left other (few, na, inr (some, e, is)) (d, at) = some (sym e ∙ d)

line_long : (bytes : List ℕ) (limit : ℕ) (a : List ℕ) (left other : Option (List ℕ)) → LineGives bytes limit (Line a) left → LineGives bytes limit TooLong other → ⊥
line_long bytes limit a left other (few, na, inl (x, e, is)) (front, long, (nb, y, d, at)) = breaks_late a front x y nb (omega (arith, few, long)) (sym e ∙ d)
line_long bytes limit a left other (few, na, inr (some, e, is)) (front, long, (nb, y, d, at)) = absurd (omega (arith, few, long, ap length (sym e ∙ d), length-append front y))

end_long : (bytes : List ℕ) (limit : ℕ) (left other : Option (List ℕ)) → LineGives bytes limit End left → LineGives bytes limit TooLong other → ⊥
end_long bytes limit left other (e, is) (front, long, (nb, y, d, at)) = absurd (omega (arith, long, ap length (sym e ∙ d), length-append front y))

long_long : (bytes : List ℕ) (limit : ℕ) (left other : Option (List ℕ)) → LineGives bytes limit TooLong left → LineGives bytes limit TooLong other → left ≡ other
long_long bytes limit left other (front, long, (na, x, e, is)) (longer, count, (nb, y, d, at)) =
    let same = fronts_are_one front longer x y (omega (arith, long, count)) (sym e ∙ d) in
    is ∙ ap Some same.1 ∙ sym at

-- two ends that the octets decide are one, with one rest
pub line_end_is_one : (bytes : List ℕ) (limit : ℕ) (a b : LineEnd) (left other : Option (List ℕ)) → IsLineDecided a → IsLineDecided b → LineGives bytes limit a left → LineGives bytes limit b other → (a ≡ b) × (left ≡ other)
line_end_is_one bytes limit (Line a) (Line b) left other one two g h =
    let same = line_line bytes limit a b left other g h in
    (ap Line same.0, same.1)
line_end_is_one bytes limit (Line a) End left other one two g h = absurd (line_end bytes limit a left other g h)
line_end_is_one bytes limit (Line a) TooLong left other one two g h = absurd (line_long bytes limit a left other g h)
line_end_is_one bytes limit End (Line b) left other one two g h = absurd (line_end bytes limit b other left h g)
line_end_is_one bytes limit End End left other one two g h = (refl, g.1 ∙ sym h.1)
line_end_is_one bytes limit End TooLong left other one two g h = absurd (end_long bytes limit left other g h)
line_end_is_one bytes limit TooLong (Line b) left other one two g h = absurd (line_long bytes limit b other left h g)
line_end_is_one bytes limit TooLong End left other one two g h = absurd (end_long bytes limit other left h g)
line_end_is_one bytes limit TooLong TooLong left other one two g h = (refl, long_long bytes limit left other g h)
line_end_is_one bytes limit ReadFault b left other never two g h = absurd never
line_end_is_one bytes limit NoMemory b left other never two g h = absurd never
line_end_is_one bytes limit a ReadFault left other one never g h = absurd never
line_end_is_one bytes limit a NoMemory left other one never g h = absurd never
