-- One more frame, answered or not.
use Rattle.std.proofs.Common.{◌≡◌, ◌∙◌, ℕ, List, [], ◌∷◌, ◌++◌, Some, ap, sym, append_assoc, append-nil}
use Rattle.sgp_der.proofs.Fields.{on_some}
use Rattle.iot_bytes.specs.Frames.{frame}
use Rattle.std.proofs.lemmas.Option.{same_Some}
use Rattle.lone_parts.specs.Folds.{Rule, fold}

-- the frame behind the others is answered in the state that they left
pub fold_push : {S : Type 0} (rule : Rule S) (s : S) (fs : List (List ℕ)) (text : List ℕ) (s1 : S) (f : List ℕ) (s2 : S) (out : List ℕ) → fold rule s fs ≡ Some (s1, text) → rule s1 f ≡ Some (s2, out) → fold rule s (fs ++ f ∷ []) ≡ Some (s2, text ++ frame out)
unfolding fold
fold_push {S} rule s [] text s1 f s2 out folded step =
    let same : (s, []) ≡ (s1, text) = same_Some _ _ folded in
    let here : s ≡ s1 = ap (λ (p : S × List ℕ). p.0) same in
    let none : [] ≡ text = ap (λ (p : S × List ℕ). p.1) same in
    let at : rule s f ≡ Some (s2, out) = ap (λ (z : S). rule z f) here ∙ step in
    rw at (ap (λ (z : List ℕ). Some (s2, z)) (append-nil (frame out) ∙ ap (λ (z : List ℕ). z ++ frame out) none))
fold_push {S} rule s (g ∷ gs) text s1 f s2 out folded step =
    on_some (rule s g) _ (s1, text) folded (λ turn at rest.
    on_some (fold rule turn.0 gs) _ (s1, text) rest (λ others folds made.
    let same : (others.0, frame turn.1 ++ others.1) ≡ (s1, text) = same_Some _ _ made in
    let state : others.0 ≡ s1 = ap (λ (p : S × List ℕ). p.0) same in
    let octets : frame turn.1 ++ others.1 ≡ text = ap (λ (p : S × List ℕ). p.1) same in
    let more = fold_push rule turn.0 gs others.1 others.0 f s2 out folds (ap (λ (z : S). rule z f) state ∙ step) in
    rw at (rw more (ap (λ (z : List ℕ). Some (s2, z)) (sym (append_assoc (frame turn.1) others.1 (frame out)) ∙ ap (λ (z : List ℕ). z ++ frame out) octets)))))
