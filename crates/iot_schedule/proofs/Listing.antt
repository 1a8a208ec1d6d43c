-- Reading words one after the other, as a loop does.
use Rattle.std.proofs.Common.{◌≡◌, ◌≢◌, ℕ, suc, ◌-◌, ◌≤◌, ◌<◌, List, [], ◌∷◌, ◌++◌, length, Option, Some, None, Err, refl, sym, ap, ◌∙◌, length-append, arith}
use Rattle.std.proofs.lemmas.List.{append-nil}
use Rattle.iot_bytes.specs.declared.memory.ReadError.{ReadError}
use Rattle.iot_bytes.specs.declared.memory.ReadError.TheVariants.{Malformed, NoMemory}
use Rattle.sgp_der.specs.Fields.{◌>>=◌, Gives}
use Rattle.sgp_fields.proofs.Loop.{with_front, regroup}
use Rattle.iot_schedule.specs.Words.{word_at, list_of, GivesWord}

spread : {X : Type 0} (r : Option X) (n : ℕ) (of : List ℕ → Option X) (ws : List (List ℕ)) → (r >>= λ x. list_of of n ws >>= λ xs. Some (x ∷ xs)) ≡ ◌>>=◌ {A = X × List (List ℕ)} (◌>>=◌ {B = X × List (List ℕ)} r (λ x. Some (x, ws))) (λ p. list_of of n p.1 >>= λ xs. Some (p.0 ∷ xs))
spread (Some x) n of ws = refl
spread None n of ws = refl

-- one word more
step : {X : Type 0} (of : List ℕ → Option X) (n : ℕ) (ws : List (List ℕ)) → ws ≢ [] → list_of of (suc n) ws ≡ (word_at of ws >>= λ p. list_of of n p.1 >>= λ xs. Some (p.0 ∷ xs))
unfolding list_of word_at
step of n [] ne = absurd (ne refl)
step of n (w ∷ ws) ne = spread (of w) n of ws

none_left : {X : Type 0} (of : List ℕ → Option X) (w : List ℕ) (ws : List (List ℕ)) → list_of of 0 (w ∷ ws) ≡ None
unfolding list_of
none_left of w ws = refl

at_end : {X : Type 0} (of : List ℕ → Option X) (n : ℕ) → list_of of n [] ≡ Some []
unfolding list_of
at_end of n = refl

pub goes_on : {X : Type 0} (of : List ℕ → Option X) (most : ℕ) (front : List X) (ws left : List (List ℕ)) (x : X) (total : Option (List X)) → length front < most → ws ≢ [] → word_at of ws ≡ Some (x, left)
    → with_front front (list_of of (most - length front) ws) ≡ total → with_front (front ++ x ∷ []) (list_of of (most - length (front ++ x ∷ [])) left) ≡ total
goes_on of most front ws left x total lt ne read so_far =
    let k : most - length front ≡ suc (most - length (front ++ x ∷ [])) = omega (arith, length-append front (x ∷ [])) in
    let one : list_of of (most - length front) ws ≡ (list_of of (most - length (front ++ x ∷ [])) left >>= λ xs. Some (x ∷ xs)) = rw k (step of (most - length (front ++ x ∷ [])) ws ne ∙ rw read refl) in
    sym (regroup front x (list_of of (most - length (front ++ x ∷ [])) left)) ∙ sym (ap (with_front front) one) ∙ so_far

pub too_many : {X : Type 0} (of : List ℕ → Option X) (most : ℕ) (front : List X) (ws : List (List ℕ)) (total : Option (List X)) → most ≤ length front → ws ≢ [] → with_front front (list_of of (most - length front) ws) ≡ total → total ≡ None
too_many of most front [] total le ne so_far = absurd (ne refl)
too_many of most front (w ∷ ws) total le ne so_far =
    let k : most - length front ≡ 0 = omega arith in
    let one : list_of of (most - length front) (w ∷ ws) ≡ None = rw k (none_left of w ws) in
    sym so_far ∙ ap (with_front front) one

pub all_read : {X : Type 0} (of : List ℕ → Option X) (front : List X) (n : ℕ) (ws : List (List ℕ)) (total : Option (List X)) → ws ≡ [] → with_front front (list_of of n ws) ≡ total → total ≡ Some front
all_read {X} of front n ws total e so_far =
    let one : list_of of n ws ≡ Some [] = rw e (at_end of n) in
    sym so_far ∙ ap (with_front front) one ∙ ap (λ (xs : List X). Some xs) (append-nil front)

-- a word that wasn't read ends the list in the same way
pub not_read : {X : Type 0} (of : List ℕ → Option X) (most : ℕ) (front : List X) (ws left : List (List ℕ)) (total : Option (List X)) (error : ReadError) → length front < most → ws ≢ []
    → GivesWord {X = X} (Err error) left (word_at of ws) → with_front front (list_of of (most - length front) ws) ≡ total → Gives {X = List X} (Err error) total
not_read of most front ws left total Malformed lt ne read so_far =
    let k : most - length front ≡ suc (most - length front - 1) = omega arith in
    let one : list_of of (most - length front) ws ≡ None = rw k (step of (most - length front - 1) ws ne ∙ rw read refl) in
    sym so_far ∙ ap (with_front front) one
not_read of most front ws left total NoMemory lt ne read so_far = tt
