-- Lemmas on the elements of a list.
use Rattle.std.proofs.Common.{◌≡◌, ◌≢◌, ◌⊎◌, inl, inr, ℕ, ◌+◌, ◌≤◌, arith, Bool, true, false, List, [], ◌∷◌, ◌++◌, map, refl, ◌∙◌, ap, sym, subst, suc, zero, cond, Option, None, Some}
use Rattle.std.specs.List.{filter, find, list_any}
use Rattle.std.specs.Prelude.{slice_get, IfSome}
use Rattle.std.proofs.lemmas.Bool.{cond_both, or_cases, false≢true}
use Rattle.small_card.specs.Lists.{Every}
use Rattle.small_world.specs.Has.{Has}

pub has_every : {X : Type 0} (P : X → Type 0) (xs : List X) (x : X) → Every P xs → Has x xs → P x
has_every P [] x h k = absurd k
has_every P (y ∷ ys) x h k = elim k [ inl e ↦ subst P e h.0 | inr i ↦ has_every P ys x h.1 i ]

pub every_has : {X : Type 0} (P : X → Type 0) (xs : List X) → ((x : X) → Has x xs → P x) → Every P xs
every_has P [] f = tt
every_has P (y ∷ ys) f = (f y (inl refl), every_has P ys (λ x i. f x (inr i)))

pub has_left : {X : Type 0} (x : X) (xs ys : List X) → Has x xs → Has x (xs ++ ys)
has_left x [] ys k = absurd k
has_left x (y ∷ xs) ys k = elim k [ inl e ↦ inl e | inr i ↦ inr (has_left x xs ys i) ]

pub has_right : {X : Type 0} (x : X) (xs ys : List X) → Has x ys → Has x (xs ++ ys)
has_right x [] ys k = k
has_right x (y ∷ xs) ys k = inr (has_right x xs ys k)

pub has_parts : {X : Type 0} (x : X) (xs ys : List X) → Has x (xs ++ ys) → Has x xs ⊎ Has x ys
has_parts x [] ys k = inr k
has_parts x (y ∷ xs) ys k = elim k [
  | inl e ↦ inl (inl e)
  | inr i ↦ elim (has_parts x xs ys i) [ inl j ↦ inl (inr j) | inr j ↦ inr j ]
]

pub has_map : {X Y : Type 0} (f : X → Y) (x : X) (xs : List X) → Has x xs → Has (f x) (map f xs)
has_map f x [] k = absurd k
has_map f x (y ∷ xs) k = elim k [ inl e ↦ inl (ap f e) | inr i ↦ inr (has_map f x xs i) ]

pub has_mapped : {X Y : Type 0} (f : X → Y) (y : Y) (xs : List X) → Has y (map f xs) → (x : X) × Has x xs × (f x ≡ y)
has_mapped f y [] k = absurd k
has_mapped f y (x ∷ xs) k = elim k [
  | inl e ↦ (x, inl refl, e)
  | inr i ↦ let r = has_mapped f y xs i in (r.0, inr r.1, r.2)
]

pub has_filter : {X : Type 0} (t : X → Bool) (x : X) (xs : List X) → Has x xs → t x ≡ true → Has x (filter t xs)
has_filter t x [] k e = absurd k
has_filter t x (y ∷ xs) k e =
    cond_both (t y) (y ∷ filter t xs) (filter t xs) (λ ys. Has x ys)
    (λ b. elim k [ inl s ↦ inl s | inr i ↦ inr (has_filter t x xs i e) ])
    (λ b. elim k [ inl s ↦ absurd (false≢true (sym b ∙ ap t s ∙ e)) | inr i ↦ has_filter t x xs i e ])

pub has_any : {X : Type 0} (t : X → Bool) (xs : List X) → list_any t xs ≡ true → (x : X) × Has x xs × (t x ≡ true)
has_any t [] e = absurd (false≢true e)
has_any t (x ∷ xs) e = elim (or_cases (t x) (list_any t xs) e) [
  | inl b ↦ (x, inl refl, b)
  | inr b ↦ let r = has_any t xs b in (r.0, inr r.1, r.2)
]

-- what stands at a place is an element
pub has_at : {X : Type 0} (xs : List X) (k : ℕ) (x : X) → slice_get xs k ≡ Some x → Has x xs
has_at [] k x e = absurd (cc)
has_at (y ∷ xs) zero x e = inl (cc)
has_at (y ∷ xs) (suc k) x e = inr (has_at xs k x e)

-- what is found is an element that passes
pub has_found : {X : Type 0} (t : X → Bool) (xs : List X) (x : X) → find t xs ≡ Some x → Has x xs × (t x ≡ true)
has_found t [] x e = absurd (cc)
has_found t (y ∷ ys) x e =
    elim (t y) as (λ b. t y ≡ b → cond b (Some y) (find t ys) ≡ Some x → Has x (y ∷ ys) × (t x ≡ true)) [
      | true ↦ λ b k. let is : y ≡ x = cc in (inl is, subst (λ z. t z ≡ true) is b)
      | false ↦ λ b k. let r = has_found t ys x k in (inr r.0, r.1)
    ] refl e

-- what holds where there is something
pub if_some : {X : Type 0} (o : Option X) (P : X → Type 0) → ((x : X) → o ≡ Some x → P x) → IfSome o P
if_some None P f = tt
if_some (Some x) P f = f x refl

-- what stands at a place has what every element has
pub at_every : {X : Type 0} (P : X → Type 0) (xs : List X) (n : ℕ) → Every P xs → IfSome (slice_get xs n) P
at_every P xs n h = if_some (slice_get xs n) P (λ x e. has_every P xs x h (has_at xs n x e))

-- what is found has what every element has
pub found_fits : {X : Type 0} (P : X → Type 0) (t : X → Bool) (xs : List X) → Every P xs → IfSome (find t xs) P
found_fits P t xs h = if_some (find t xs) P (λ x e. has_every P xs x h (has_found t xs x e).0)

-- below the last number
pub below_last : (n last : ℕ) → n ≤ last → n ≢ last → n + 1 ≤ last
below_last n last l e = omega (arith, l, e)
