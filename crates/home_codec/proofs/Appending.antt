-- Appending in pieces.
use Rattle.std.proofs.Common.{◌≡◌, ℕ, ◌+◌, List, [], ◌∷◌, ◌++◌, sym, append_assoc, ap, ◌∙◌}
use Rattle.std.proofs.lemmas.Grind.{replicate_next}
use Rattle.std.proofs.lemmas.List.{append-nil}
use Rattle.home_codec.specs.Fixed.{zeros}

pub zeros_more : (n : ℕ) → zeros (n + 1) ≡ zeros n ++ 0 ∷ []
unfolding zeros
zeros_more n = replicate_next n 0

pub none_yet : (out : List ℕ) → out ≡ out ++ zeros 0
unfolding zeros
none_yet out = sym (append-nil out)

-- one zero more
pub zero_put : (out before next : List ℕ) (n : ℕ) → out ≡ before ++ zeros n → next ≡ out ++ 0 ∷ [] → next ≡ before ++ zeros (n + 1)
zero_put out before next n so_far put = put ∙ ap (λ (l : List ℕ). l ++ 0 ∷ []) so_far ∙ append_assoc before (zeros n) (0 ∷ []) ∙ ap (λ (l : List ℕ). before ++ l) (sym (zeros_more n))
