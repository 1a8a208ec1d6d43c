-- The steps of reading so many entries.
use Rattle.std.proofs.Common.{◌≡◌, ℕ, zero, suc, ◌+◌, ◌-◌, ◌<◌, ◌≤◌, List, [], ◌∷◌, ◌++◌, length, Option, Some, None, refl, sym, ap, ◌∙◌, arith, append_assoc}
use Rattle.std.proofs.lemmas.List.{append-nil}
use Rattle.sgp_der.specs.Fields.{◌>>=◌}
use Rattle.sgp_der.proofs.Fields.{on_some}
use Rattle.std.proofs.lemmas.Option.{same_Some}
use Rattle.home_codec.specs.Fixed.{many_at, joined}

joined_more : {X : Type 0} (rows : List X) (x : X) (r : Option (List X × List ℕ)) → joined rows (r >>= λ xs. Some (x ∷ xs.0, xs.1)) ≡ joined (rows ++ x ∷ []) r
joined_more rows x None = refl
joined_more {X} rows x (Some r) = ap (λ (ys : List X). let p : List X × List ℕ = (ys, r.1) in Some p) (sym (append_assoc rows (x ∷ []) r.0))

pub many_first : {X : Type 0} (entry : List ℕ → Option (X × List ℕ)) (n : ℕ) (bytes rest : List ℕ) (x : X) → entry bytes ≡ Some (x, rest) → many_at entry (suc n) bytes ≡ (many_at entry n rest >>= λ xs. Some (x ∷ xs.0, xs.1))
unfolding many_at
many_first entry n bytes rest x e = rw e refl

pub many_none : {X : Type 0} (entry : List ℕ → Option (X × List ℕ)) (n : ℕ) (bytes : List ℕ) → entry bytes ≡ None → many_at entry (suc n) bytes ≡ None
unfolding many_at
many_none entry n bytes e = rw e refl

-- one entry more
pub goes_on : {X : Type 0} (entry : List ℕ → Option (X × List ℕ)) (rows : List X) (n i : ℕ) (bytes rest : List ℕ) (x : X) (whole : Option (List X × List ℕ)) → i < n → entry bytes ≡ Some (x, rest)
    → joined rows (many_at entry (n - i) bytes) ≡ whole → joined (rows ++ x ∷ []) (many_at entry (n - (i + 1)) rest) ≡ whole
goes_on {X} entry rows n i bytes rest x whole lt e so_far =
    let next : n - i ≡ suc (n - (i + 1)) = omega arith in
    sym (joined_more rows x (many_at entry (n - (i + 1)) rest))
    ∙ ap (λ (r : Option (List X × List ℕ)). joined rows r) (sym (many_first entry (n - (i + 1)) bytes rest x e))
    ∙ ap (λ (k : ℕ). joined rows (many_at entry k bytes)) (sym next)
    ∙ so_far

-- no entry
pub no_entry : {X : Type 0} (entry : List ℕ → Option (X × List ℕ)) (rows : List X) (n i : ℕ) (bytes : List ℕ) (whole : Option (List X × List ℕ)) → i < n → entry bytes ≡ None
    → joined rows (many_at entry (n - i) bytes) ≡ whole → whole ≡ None
no_entry {X} entry rows n i bytes whole lt e so_far =
    let next : n - i ≡ suc (n - (i + 1)) = omega arith in
    sym so_far ∙ ap (λ (k : ℕ). joined rows (many_at entry k bytes)) next ∙ ap (λ (r : Option (List X × List ℕ)). joined rows r) (many_none entry (n - (i + 1)) bytes e)

-- all entries
pub all_read : {X : Type 0} (entry : List ℕ → Option (X × List ℕ)) (rows : List X) (n i : ℕ) (bytes : List ℕ) (whole : Option (List X × List ℕ)) → n ≤ i
    → joined rows (many_at entry (n - i) bytes) ≡ whole → whole ≡ Some (rows, bytes)
unfolding many_at
all_read {X} entry rows n i bytes whole le so_far =
    let none : n - i ≡ 0 = omega arith in
    sym so_far ∙ ap (λ (k : ℕ). joined rows (many_at entry k bytes)) none ∙ ap (λ (xs : List X). let p : List X × List ℕ = (xs, bytes) in Some p) (append-nil rows)

-- so many entries were read
pub many_count : {X : Type 0} (entry : List ℕ → Option (X × List ℕ)) (n : ℕ) (bytes : List ℕ) (p : List X × List ℕ) → many_at entry n bytes ≡ Some p → length p.0 ≡ n
unfolding many_at
many_count {X} entry zero bytes p e =
    let made : List X × List ℕ = ([], bytes) in
    sym (ap (λ (q : List X × List ℕ). length q.0) (same_Some made p e))
many_count {X} entry (suc n) bytes p e =
    on_some (entry bytes) _ p e (λ x a e1.
    on_some (many_at entry n x.1) _ p e1 (λ q b e2.
    let made : List X × List ℕ = (x.0 ∷ q.0, q.1) in
    sym (ap (λ (r : List X × List ℕ). length r.0) (same_Some made p e2)) ∙ ap suc (many_count entry n x.1 q b)))
