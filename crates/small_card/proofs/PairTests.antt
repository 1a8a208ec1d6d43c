-- The test of a list's pairs passes exactly where each two of them are apart.
use Rattle.std.proofs.Common.{◌≡◌, ◌≢◌, ℕ, Bool, true, false, not, ◌&&◌, List, [], ◌∷◌, refl}
use Rattle.std.specs.Prelude.{◌==◌, ◌↔◌}
use Rattle.std.specs.List.{list_all}
use Rattle.std.proofs.lemmas.Bool.{and_parts, and_from, not-true, not_from_false, false_from_ne_true, eqb-true, eqb-false, ltb-true, lt-ltb}
use Rattle.small_card.specs.Lists.{same, Every, EveryPair}
use Rattle.small_card.specs.Ranges.{AreApart, AreLinesApart, IsBefore}
use Rattle.small_card.specs.Valid.{AreEntriesApart}
use Rattle.small_card.specs.Pairs.{each_pair, are_profiles_apart, are_lines_apart, are_entries_apart, are_rising}
use Rattle.small_card.specs.declared.types.Profile.{Profile}
use Rattle.small_card.proofs.ListLemmas.{same_yes, same_no}

-- the test passes exactly where the relation holds
pub record Tests {X : Type 0} (test : X → X → Bool) (R : X → X → Type 0) : Type 0 where
  pub takes : (x y : X) → test x y ≡ true → R x y
  pub again : (x y : X) → R x y → test x y ≡ true

-- a test of each element
pub each_take : {X : Type 0} (test : X → Bool) (P : X → Type 0) → ((x : X) → test x ≡ true → P x) → (xs : List X) → list_all test xs ≡ true → Every P xs
each_take test P f [] e = tt
each_take test P f (x ∷ xs) e = let k = and_parts (test x) (list_all test xs) e in (f x k.0, each_take test P f xs k.1)

pub each_again : {X : Type 0} (test : X → Bool) (P : X → Type 0) → ((x : X) → P x → test x ≡ true) → (xs : List X) → Every P xs → list_all test xs ≡ true
each_again test P f [] h = refl
each_again test P f (x ∷ xs) h = and_from (test x) (list_all test xs) (f x h.0) (each_again test P f xs h.1)

pub pairs_take : {X : Type 0} {test : X → X → Bool} {R : X → X → Type 0} → Tests test R → (xs : List X) → each_pair test xs ≡ true → EveryPair R xs
unfolding each_pair
pairs_take t [] e = tt
pairs_take {X} {test} {R} t (x ∷ xs) e =
    let k = and_parts (list_all (test x) xs) (each_pair test xs) e in
    (each_take (test x) (R x) (t.takes x) xs k.0, pairs_take t xs k.1)

pub pairs_again : {X : Type 0} {test : X → X → Bool} {R : X → X → Type 0} → Tests test R → (xs : List X) → EveryPair R xs → each_pair test xs ≡ true
unfolding each_pair
pairs_again t [] h = refl
pairs_again {X} {test} {R} t (x ∷ xs) h = and_from (list_all (test x) xs) (each_pair test xs) (each_again (test x) (R x) (t.again x) xs h.0) (pairs_again t xs h.1)

pub pairs_both : {X : Type 0} {test : X → X → Bool} {R : X → X → Type 0} → Tests test R → (xs : List X) → (each_pair test xs ≡ true) ↔ EveryPair R xs
pairs_both t xs = (pairs_take t xs, pairs_again t xs)

both_on : (a b : Bool) → (a && b) ≡ false → a ≡ true → b ≡ true → ⊥
both_on true true e f g = absurd cc
both_on true false e f g = absurd cc
both_on false b e f g = absurd cc

profiles_take : (p q : Profile) → are_profiles_apart p q ≡ true → AreApart p q
profiles_take p q e =
    let k = and_parts (not (same p.iccid q.iccid)) (not (p.enabled && q.enabled)) e in
    record { iccids = same_no p.iccid q.iccid (not-true _ k.0); enabled = both_on p.enabled q.enabled (not-true _ k.1) }

profiles_again : (p q : Profile) → AreApart p q → are_profiles_apart p q ≡ true
profiles_again p q h =
    and_from _ _ (not_from_false _ (false_from_ne_true _ (λ e. h.iccids (same_yes p.iccid q.iccid e))))
    (not_from_false _ (false_from_ne_true _ (λ e. h.enabled (and_parts p.enabled q.enabled e).0 (and_parts p.enabled q.enabled e).1)))

pub profile_pairs : Tests are_profiles_apart AreApart
profile_pairs = record { takes = profiles_take; again = profiles_again }

-- of an identifier and a number neither is the other's
named_take : (i j : List ℕ) (n m : ℕ) → not (same i j) && not (n == m) ≡ true → (i ≢ j) × (n ≢ m)
named_take i j n m h =
    let k = and_parts (not (same i j)) (not (n == m)) h in
    (same_no i j (not-true _ k.0), eqb-false _ _ (not-true _ k.1))

named_again : (i j : List ℕ) (n m : ℕ) → i ≢ j → n ≢ m → not (same i j) && not (n == m) ≡ true
named_again i j n m h k =
    and_from _ _ (not_from_false _ (false_from_ne_true _ (λ e. h (same_yes i j e))))
    (not_from_false _ (false_from_ne_true _ (λ e. k (eqb-true _ _ e))))

pub line_pairs : Tests are_lines_apart AreLinesApart
line_pairs = record {
  takes = λ d e h. let k = named_take d.id e.id d.association e.association h in record { ids = k.0; associations = k.1 };
  again = λ d e h. named_again d.id e.id d.association e.association h.ids h.associations;
}

pub entry_pairs : Tests are_entries_apart AreEntriesApart
entry_pairs = record {
  takes = λ d e h. let k = named_take d.id e.id d.association e.association h in record { ids = k.0; associations = k.1 };
  again = λ d e h. named_again d.id e.id d.association e.association h.ids h.associations;
}

pub rising_pairs : Tests are_rising IsBefore
rising_pairs = record { takes = λ r s e. ltb-true r.seq s.seq e; again = λ r s h. lt-ltb r.seq s.seq h }
