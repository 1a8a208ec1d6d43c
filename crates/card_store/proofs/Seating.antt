-- Seating one result after the other.
use Rattle.std.proofs.Common.{◌≡◌, ℕ, zero, suc, ◌+◌, ◌<◌, List, [], ◌∷◌, ◌++◌, length, take, get_or, set, refl, ◌∙◌, ap, subst, arith, length-append}
use Rattle.std.specs.Prelude.{Option, Some, None, slice_get}
use Rattle.std.proofs.lemmas.List.{take_more}
use Rattle.std.proofs.lemmas.Option.{slice_get_within, get_or_from_slice_get, slice_get-get_or}
use Rattle.small_card.specs.Lists.{Every, EveryPair}
use Rattle.small_card.specs.Ranges.{IsBefore}
use Rattle.small_card.specs.declared.types.PackageResult.{PackageResult}
use Rattle.home_codec.specs.Ordering.{somes}
use Rattle.card_store.specs.Seats.{places_of, seated, seat_at}

-- one more that is there, somewhere among the others
pub record Split {X : Type 0} (old new : List X) (x : X) : Type 0 where
  pub before : List X
  pub behind : List X
  pub old_is : old ≡ before ++ behind
  pub new_is : new ≡ before ++ x ∷ behind

pub somes_set : {X : Type 0} (xs : List (Option X)) (s : ℕ) (x : X) → s < length xs → get_or xs s None ≡ None → Split (somes xs) (somes (set xs s (Some x))) x
somes_set {X = X} [] s x lt free = absurd (omega arith)
somes_set {X = X} (None ∷ xs) zero x lt free = record { before = []; behind = somes xs; old_is = refl; new_is = refl }
somes_set {X = X} (Some y ∷ xs) zero x lt free = absurd (cc free)
somes_set {X = X} (None ∷ xs) (suc s) x lt free = somes_set xs s x (omega arith) free
somes_set {X = X} (Some y ∷ xs) (suc s) x lt free =
    let more = somes_set xs s x (omega arith) free in
    record { before = y ∷ more.before; behind = more.behind; old_is = ap (λ (l : List X). y ∷ l) more.old_is; new_is = ap (λ (l : List X). y ∷ l) more.new_is }

pub length-split : {X : Type 0} (old new : List X) (x : X) → Split old new x → length new ≡ length old + 1
length-split old new x s = omega (arith, ap length s.old_is, ap length s.new_is, length-append s.before s.behind, length-append s.before (x ∷ s.behind))

pub map_set : (pending : List PackageResult) (seats : List (Option ℕ)) (s i : ℕ) (r : PackageResult) → slice_get pending i ≡ Some r → places_of pending (set seats s (Some i)) ≡ set (places_of pending seats) s (Some r)
map_set pending [] s i r is = refl
map_set pending (x ∷ xs) zero i r is = ap (λ (p : Option PackageResult). p ∷ places_of pending xs) is
map_set pending (x ∷ xs) (suc s) i r is = ap (λ (l : List (Option PackageResult)). seated pending x ∷ l) (map_set pending xs s i r is)

pub seat_free : (pending : List PackageResult) (seats : List (Option ℕ)) (s : ℕ) → seat_at seats s ≡ None → get_or (places_of pending seats) s None ≡ None
seat_free pending [] s free = refl
seat_free pending (x ∷ xs) zero free = ap (seated pending) free
seat_free pending (x ∷ xs) (suc s) free = seat_free pending xs s free

pub length-places : (pending : List PackageResult) (seats : List (Option ℕ)) → length (places_of pending seats) ≡ length seats
length-places pending [] = refl
length-places pending (x ∷ xs) = ap suc (length-places pending xs)

pub every_get : (P : PackageResult → Type 0) (xs : List PackageResult) (i : ℕ) (d : PackageResult) → i < length xs → Every P xs → P (get_or xs i d)
every_get P [] i d lt each = absurd (omega arith)
every_get P (x ∷ xs) zero d lt each = each.0
every_get P (x ∷ xs) (suc i) d lt each = every_get P xs i d (omega arith) each.1

pub below_next : (xs : List PackageResult) (i : ℕ) (r : PackageResult) → EveryPair IsBefore xs → slice_get xs i ≡ Some r → Every (λ s. IsBefore s r) (take i xs)
below_next [] i r rising is = absurd (omega (arith, slice_get_within {A = PackageResult} [] i r is))
below_next (x ∷ xs) zero r rising is = tt
below_next (x ∷ xs) (suc i) r rising is =
    let lt : suc i < length (x ∷ xs) = slice_get_within (x ∷ xs) (suc i) r is in
    let here : get_or xs i r ≡ r = get_or_from_slice_get (x ∷ xs) (suc i) r r is in
    (subst (λ (s : PackageResult). IsBefore x s) here (every_get (IsBefore x) xs i r (omega arith) rising.0), below_next xs i r rising.1 (slice_get-get_or xs i r (omega arith) ∙ ap (λ (s : PackageResult). Some s) here))

pub take_next : (xs : List PackageResult) (i : ℕ) (r : PackageResult) → slice_get xs i ≡ Some r → take (i + 1) xs ≡ take i xs ++ r ∷ []
take_next xs i r is = take_more xs i r (slice_get_within xs i r is) ∙ ap (λ (x : PackageResult). take i xs ++ x ∷ []) (get_or_from_slice_get xs i r r is)

-- what stands in a slot is the result of its seat
pub place_at : (pending : List PackageResult) (seats : List (Option ℕ)) (s : ℕ) → get_or (places_of pending seats) s None ≡ seated pending (seat_at seats s)
place_at pending [] s = refl
place_at pending (x ∷ xs) zero = refl
place_at pending (x ∷ xs) (suc s) = place_at pending xs s
