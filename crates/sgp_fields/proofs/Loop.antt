-- Reading entries one after the other, as a loop does.
use Rattle.std.proofs.Common.{◌≡◌, ◌≢◌, ℕ, suc, ◌-◌, ◌≤◌, ◌<◌, List, [], ◌∷◌, ◌++◌, length, Option, Some, None, Err, refl, sym, ap, ◌∙◌, append_assoc, length-append, arith}
use Rattle.std.proofs.lemmas.List.{append-nil}
use Rattle.sgp_der.specs.Reading.{Part}
use Rattle.iot_bytes.specs.declared.memory.ReadError.{ReadError}
use Rattle.iot_bytes.specs.declared.memory.ReadError.TheVariants.{Malformed, NoMemory}
use Rattle.sgp_der.specs.Fields.{◌>>=◌, part_at, Gives}
use Rattle.sgp_fields.specs.Lists.{list_at}

-- what was read before, and what is still read
abbrev pub with_front : {X : Type 0} → List X → Option (List X) → Option (List X)
with_front front read = read >>= λ xs. Some (front ++ xs)

pub regroup : {X : Type 0} (front : List X) (x : X) (read : Option (List X)) → with_front front (read >>= λ xs. Some (x ∷ xs)) ≡ with_front (front ++ x ∷ []) read
regroup {X} front x (Some xs) = ap (λ (all : List X). Some all) (sym (append_assoc front (x ∷ []) xs))
regroup front x None = refl

-- one entry more
pub step : {X : Type 0} (entry : ℕ → List ℕ → Option X) (n : ℕ) (bytes : List ℕ) → bytes ≢ [] → list_at entry (suc n) bytes ≡ (part_at bytes >>= λ p. entry p.tag p.content >>= λ x. list_at entry n p.rest >>= λ xs. Some (x ∷ xs))
unfolding list_at
step entry n [] ne = absurd (ne refl)
step entry n (b ∷ bs) ne = refl

none_left : {X : Type 0} (entry : ℕ → List ℕ → Option X) (b : ℕ) (bs : List ℕ) → list_at entry 0 (b ∷ bs) ≡ None
unfolding list_at
none_left entry b bs = refl

pub at_end : {X : Type 0} (entry : ℕ → List ℕ → Option X) (n : ℕ) → list_at entry n [] ≡ Some []
unfolding list_at
at_end entry n = refl

pub goes_on : {X : Type 0} (entry : ℕ → List ℕ → Option X) (most : ℕ) (front : List X) (bytes : List ℕ) (p : Part) (x : X) (total : Option (List X)) → length front < most → bytes ≢ [] → part_at bytes ≡ Some p → entry p.tag p.content ≡ Some x
    → with_front front (list_at entry (most - length front) bytes) ≡ total → with_front (front ++ x ∷ []) (list_at entry (most - length (front ++ x ∷ [])) p.rest) ≡ total
goes_on entry most front bytes p x total lt ne part read so_far =
    let k : most - length front ≡ suc (most - length (front ++ x ∷ [])) = omega (arith, length-append front (x ∷ [])) in
    let one : list_at entry (most - length front) bytes ≡ (list_at entry (most - length (front ++ x ∷ [])) p.rest >>= λ xs. Some (x ∷ xs)) = rw k (step entry (most - length (front ++ x ∷ [])) bytes ne ∙ rw part (rw read refl)) in
    sym (regroup front x (list_at entry (most - length (front ++ x ∷ [])) p.rest)) ∙ sym (ap (with_front front) one) ∙ so_far

pub no_part : {X : Type 0} (entry : ℕ → List ℕ → Option X) (most : ℕ) (front : List X) (bytes : List ℕ) (total : Option (List X)) → length front < most → bytes ≢ [] → part_at bytes ≡ None → with_front front (list_at entry (most - length front) bytes) ≡ total → total ≡ None
no_part entry most front bytes total lt ne part so_far =
    let k : most - length front ≡ suc (most - length front - 1) = omega arith in
    let one : list_at entry (most - length front) bytes ≡ None = rw k (step entry (most - length front - 1) bytes ne ∙ rw part refl) in
    sym so_far ∙ ap (with_front front) one

pub no_entry : {X : Type 0} (entry : ℕ → List ℕ → Option X) (most : ℕ) (front : List X) (bytes : List ℕ) (p : Part) (total : Option (List X)) → length front < most → bytes ≢ [] → part_at bytes ≡ Some p → entry p.tag p.content ≡ None
    → with_front front (list_at entry (most - length front) bytes) ≡ total → total ≡ None
no_entry entry most front bytes p total lt ne part read so_far =
    let k : most - length front ≡ suc (most - length front - 1) = omega arith in
    let one : list_at entry (most - length front) bytes ≡ None = rw k (step entry (most - length front - 1) bytes ne ∙ rw part (rw read refl)) in
    sym so_far ∙ ap (with_front front) one

pub too_many : {X : Type 0} (entry : ℕ → List ℕ → Option X) (most : ℕ) (front : List X) (bytes : List ℕ) (total : Option (List X)) → most ≤ length front → bytes ≢ [] → with_front front (list_at entry (most - length front) bytes) ≡ total → total ≡ None
too_many entry most front [] total le ne so_far = absurd (ne refl)
too_many entry most front (b ∷ bs) total le ne so_far =
    let k : most - length front ≡ 0 = omega arith in
    let one : list_at entry (most - length front) (b ∷ bs) ≡ None = rw k (none_left entry b bs) in
    sym so_far ∙ ap (with_front front) one

pub all_read : {X : Type 0} (entry : ℕ → List ℕ → Option X) (front : List X) (n : ℕ) (bytes : List ℕ) (total : Option (List X)) → bytes ≡ [] → with_front front (list_at entry n bytes) ≡ total → total ≡ Some front
all_read {X} entry front n bytes total e so_far =
    let one : list_at entry n bytes ≡ Some [] = rw e (at_end entry n) in
    sym so_far ∙ ap (with_front front) one ∙ ap (λ (xs : List X). Some xs) (append-nil front)

-- an entry that wasn't read ends the list in the same way
pub not_read : {X : Type 0} (entry : ℕ → List ℕ → Option X) (most : ℕ) (front : List X) (bytes : List ℕ) (p : Part) (total : Option (List X)) (error : ReadError) → length front < most → bytes ≢ [] → part_at bytes ≡ Some p
    → Gives {X = X} (Err error) (entry p.tag p.content) → with_front front (list_at entry (most - length front) bytes) ≡ total → Gives {X = List X} (Err error) total
not_read entry most front bytes p total Malformed lt ne part read so_far = no_entry entry most front bytes p total lt ne part read so_far
not_read entry most front bytes p total NoMemory lt ne part read so_far = tt
