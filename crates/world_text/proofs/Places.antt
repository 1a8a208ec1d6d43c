-- The places of messages, one more at a time.
use Rattle.std.proofs.Common.{◌≡◌, ℕ, zero, suc, ◌+◌, ◌<◌, List, [], ◌∷◌, ◌++◌, length, take, ap, sym, ◌∙◌, arith, codes, decimal, append_assoc, append-nil, add-one}
use Rattle.esipa_codec.specs.declared.messages.Post.{Post}
use Rattle.small_world.specs.Texts.{places_text}

places-suc : (n i : ℕ) (ps : List Post) → i < length ps → places_text n (take (suc i) ps) ≡ places_text n (take i ps) ++ (codes " " ++ decimal (n + i))
unfolding places_text
places-suc n zero [] lt = absurd (omega (arith, lt))
places-suc n (suc i) [] lt = absurd (omega (arith, lt))
places-suc n zero (p ∷ ps) lt =
    let same : n ≡ n + 0 = omega arith in
    ap (λ z. codes " " ++ z) (append-nil (decimal n) ∙ ap decimal same)
places-suc n (suc i) (p ∷ ps) lt =
    let same : n + 1 + i ≡ n + suc i = omega arith in
    let further = places-suc (n + 1) i ps (omega (arith, lt)) ∙ ap (λ k. places_text (n + 1) (take i ps) ++ (codes " " ++ decimal k)) same in
    ap (λ z. codes " " ++ z) (ap (λ z. decimal n ++ z) further ∙ sym (append_assoc (decimal n) (places_text (n + 1) (take i ps)) (codes " " ++ decimal (n + suc i))))

-- one more place behind those that were put
pub places-more : (n i : ℕ) (ps : List Post) (old out now : List ℕ) → i < length ps → out ≡ old ++ places_text n (take i ps) → now ≡ out ++ (codes " " ++ decimal (n + i)) → now ≡ old ++ places_text n (take (i + 1) ps)
places-more n i ps old out now lt was put =
    rw add-one (put ∙ ap (λ z. z ++ (codes " " ++ decimal (n + i))) was ∙ append_assoc old (places_text n (take i ps)) (codes " " ++ decimal (n + i)) ∙ sym (ap (λ z. old ++ z) (places-suc n i ps lt)))

-- none was put yet
pub none-put : (n : ℕ) (ps : List Post) (old : List ℕ) → old ≡ old ++ places_text n (take 0 ps)
unfolding places_text
none-put n ps old = sym (append-nil old)
