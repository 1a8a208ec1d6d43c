-- Steps of writers: an element whose head was put first, and octets that were written in pieces.
use Rattle.std.proofs.Common.{◌≡◌, ℕ, ◌+◌, ◌≤◌, List, ◌∷◌, ◌++◌, length, take, sym, ap, ◌∙◌, arith, append_assoc, length-append}
use Rattle.std.proofs.lemmas.List.{take-take}
use Rattle.std.proofs.Math.Seq.{take-append_seam}
use Rattle.iot_bytes.proofs.Appending.{apart}
use Rattle.sgp_der.specs.Element.{element, len_octets}

-- the head, with the length of the content, and then the content
pub opened : (old content : List ℕ) (tag : ℕ) → old ++ element tag content ≡ (old ++ tag ∷ len_octets (length content)) ++ content
unfolding element
opened old content tag = sym (append_assoc old (tag ∷ len_octets (length content)) content)

-- what a writer's proof cites
pub ruleset appended = (opened, apart)

-- the head, then the content
pub headed : (old content : List ℕ) (tag n : ℕ) → n ≡ length content → (old ++ tag ∷ len_octets n) ++ content ≡ old ++ element tag content
unfolding element
headed old content tag n e = rw e (append_assoc old (tag ∷ len_octets (length content)) content)

-- what was kept of octets and more was kept of the octets
pub kept_before : (old more new : List ℕ) → take (length (old ++ more)) new ≡ old ++ more → take (length old) new ≡ old
kept_before old more new e =
    let le : length old ≤ length (old ++ more) = omega (arith, length-append old more) in
    sym (take-take (length old) (length (old ++ more)) new le) ∙ ap (take (length old)) e ∙ take-append_seam old more

-- the length of two pieces
pub length_both : (xs ys : List ℕ) (n m : ℕ) → length xs ≡ n → length ys ≡ m → n + m ≡ length (xs ++ ys)
length_both xs ys n m e f = omega (arith, length-append xs ys)
