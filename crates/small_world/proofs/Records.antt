-- A record is a received result with the greatest number of its association and counter.
use Rattle.std.proofs.Common.{◌≡◌, ◌⊎◌, inl, inr, ℕ, ◌≤◌, true, ◌&&◌, List, [], ◌∷◌, refl, ◌∙◌, ap, sym, subst, arith, Option, None, Some}
use Rattle.std.specs.Prelude.{◌==◌, nat_lt}
use Rattle.std.proofs.lemmas.Bool.{cond_both, eqb-true, eq-eqb, ltb-true, ltb-false, and_parts, true≢false}
use Rattle.small_card.specs.declared.types.PackageResult.{PackageResult}
use Rattle.small_world.specs.Has.{Has}
use Rattle.esipa_codec.specs.Records.{is_of, greater, record_of}

greater_in : (r : PackageResult) (o : Option PackageResult) (x : PackageResult) → greater r o ≡ x → (r ≡ x) ⊎ (o ≡ Some x)
unfolding greater
greater_in r None x e = inl e
greater_in r (Some s) x e =
    cond_both (nat_lt s.seq r.seq) r s (λ y. y ≡ x → (r ≡ x) ⊎ (Some s ≡ Some x)) (λ b k. inl k) (λ b k. inr (ap (λ (y : PackageResult). Some y) k)) e

-- the new result isn't above, nor is the older record
pub record IsAbove (r x : PackageResult) (o : Option PackageResult) : Type 0 where
  pub new : r.seq ≤ x.seq
  pub older : (s : PackageResult) → o ≡ Some s → s.seq ≤ x.seq

greater_top : (r : PackageResult) (o : Option PackageResult) → IsAbove r (greater r o) o
unfolding greater
greater_top r None = record { new = omega arith; older = λ s e. absurd (cc) }
greater_top r (Some t) =
    cond_both (nat_lt t.seq r.seq) r t (λ y. IsAbove r y (Some t))
    (λ b. record { new = omega arith; older = λ s e. let k : t ≡ s = cc in let n : t.seq ≡ s.seq = ap (λ (y : PackageResult). y.seq) k in omega (arith, n, ltb-true t.seq r.seq b) })
    (λ b. record { new = ltb-false t.seq r.seq b; older = λ s e. let k : t ≡ s = cc in let n : t.seq ≡ s.seq = ap (λ (y : PackageResult). y.seq) k in omega (arith, n) })

-- a record was received, and is of its association and counter
pub record IsTaken (association counter : ℕ) (rs : List PackageResult) (r : PackageResult) : Type 0 where
  pub received : Has r rs
  pub association_is : r.association ≡ association
  pub counter_is : r.counter ≡ counter

later_taken : (association counter : ℕ) (older : List PackageResult) (r x : PackageResult) → IsTaken association counter older x → IsTaken association counter (r ∷ older) x
later_taken association counter older r x h = record { received = inr h.received; association_is = h.association_is; counter_is = h.counter_is }

of_parts : (association counter : ℕ) (r : PackageResult) → is_of association counter r ≡ true → (r.association ≡ association) × (r.counter ≡ counter)
of_parts association counter r e = let b = and_parts (r.association == association) (r.counter == counter) e in (eqb-true r.association association b.0, eqb-true r.counter counter b.1)

of_from : (association counter : ℕ) (r : PackageResult) → r.association ≡ association → r.counter ≡ counter → is_of association counter r ≡ true
of_from association counter r a c = ap (λ b. b && r.counter == counter) (eq-eqb r.association association a) ∙ eq-eqb r.counter counter c

pub record_taken : (association counter : ℕ) (rs : List PackageResult) (x : PackageResult) → record_of association counter rs ≡ Some x → IsTaken association counter rs x
unfolding record_of
record_taken association counter [] x e = absurd (cc)
record_taken association counter (r ∷ older) x e =
    let o : Option PackageResult = record_of association counter older in
    cond_both (is_of association counter r) (Some (greater r o)) o (λ y. y ≡ Some x → IsTaken association counter (r ∷ older) x)
    (λ b k.
    let is : greater r o ≡ x = cc in
    elim (greater_in r o x is) [
      | inl s ↦ let parts = of_parts association counter r b in subst (λ y. IsTaken association counter (r ∷ older) y) s (record { received = inl refl; association_is = parts.0; counter_is = parts.1 })
      | inr s ↦ later_taken association counter older r x (record_taken association counter older x s)
    ])
    (λ b k. later_taken association counter older r x (record_taken association counter older x k)) e

-- what was received has a record, whose number isn't below
pub record_top : (association counter : ℕ) (rs : List PackageResult) (x : PackageResult) → Has x rs → x.association ≡ association → x.counter ≡ counter
    → (r : PackageResult) × (record_of association counter rs ≡ Some r) × (x.seq ≤ r.seq)
unfolding record_of
record_top association counter [] x i a c = absurd i
record_top association counter (r ∷ older) x i a c =
    let o : Option PackageResult = record_of association counter older in
    let top = greater_top r o in
    elim i [
      | inl s ↦
          let b : is_of association counter r ≡ true = of_from association counter r (ap (λ (y : PackageResult). y.association) s ∙ a) (ap (λ (y : PackageResult). y.counter) s ∙ c) in
          let n : r.seq ≡ x.seq = ap (λ (y : PackageResult). y.seq) s in
          cond_both (is_of association counter r) (Some (greater r o)) o (λ y. (z : PackageResult) × (y ≡ Some z) × (x.seq ≤ z.seq))
          (λ _. (greater r o, refl, omega (arith, n, top.new)))
          (λ e. absurd (true≢false (sym b ∙ e)))
      | inr j ↦
          let rest = record_top association counter older x j a c in
          cond_both (is_of association counter r) (Some (greater r o)) o (λ y. (z : PackageResult) × (y ≡ Some z) × (x.seq ≤ z.seq))
          (λ _. (greater r o, refl, let n : rest.0.seq ≤ (greater r o).seq = top.older rest.0 rest.1 in let m = rest.2 in omega (arith, n, m)))
          (λ _. rest)
    ]
