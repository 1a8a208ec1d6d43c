-- The numbers of the slots, and the tests on them.
use Rattle.std.proofs.Common.{◌≡◌, ◌⊎◌, inl, inr, ℕ, zero, suc, Bool, true, false, not, List, [], ◌∷◌, refl, sym, ◌∙◌, ap, subst}
use Rattle.std.specs.Prelude.{Option, Some, None, option_map, slice_get}
use Rattle.std.specs.List.{list_any, list_all}
use Rattle.std.proofs.lemmas.Bool.{eqb-true, eq-eqb, or_cases, or_left, or_right, and_parts, and_from}
use Rattle.std.proofs.lemmas.Option.{same_Some}
use Rattle.small_card.specs.Lists.{Every}
use Rattle.small_card.specs.Units.{has_seq}
use Rattle.small_card.specs.declared.types.PackageResult.{PackageResult}
use Rattle.home_codec.specs.Ordering.{somes}
use Rattle.home_codec.proofs.Sorting.{every_in_order}
use Rattle.small_card.proofs.ListLemmas.{any_at}
use Rattle.card_store.specs.Slots.{number_in, IsIn, numbers_of}
use Rattle.card_store.specs.Seats.{AreSeats, seated, seat_at, places_of, has_number, stands, is_gone}

-- each element passes
pub all_at : {X : Type 0} (p : X → Bool) (xs : List X) (i : ℕ) (x : X) → list_all p xs ≡ true → slice_get xs i ≡ Some x → p x ≡ true
all_at p [] i x all is = absurd (cc is)
all_at p (y ∷ ys) zero x all is = ap p (sym (same_Some y x is)) ∙ (and_parts (p y) (list_all p ys) all).0
all_at p (y ∷ ys) (suc i) x all is = all_at p ys i x (and_parts (p y) (list_all p ys) all).1 is

pub all_from : (p : PackageResult → Bool) (rs : List PackageResult) → Every (λ r. p r ≡ true) rs → list_all p rs ≡ true
all_from p [] each = refl
all_from p (r ∷ rs) each = and_from (p r) (list_all p rs) each.0 (all_from p rs each.1)

pub every_map : (P Q : PackageResult → Type 0) (rs : List PackageResult) → ((r : PackageResult) → P r → Q r) → Every P rs → Every Q rs
every_map P Q [] f each = tt
every_map P Q (r ∷ rs) f each = (f r each.0, every_map P Q rs f each.1)

-- a slot's number stands in a slot
pub stands_at : (slots : List (Option ℕ)) (slot n : ℕ) → number_in slots slot ≡ Some n → stands slots n ≡ true
stands_at [] slot n e = absurd (cc e)
stands_at (o ∷ os) zero n e = or_left (has_number n o) (stands os n) (ap (has_number n) e ∙ eq-eqb n n refl)
stands_at (o ∷ os) (suc slot) n e = or_right (has_number n o) (stands os n) (stands_at os slot n e)

pub has_some : (n : ℕ) (o : Option ℕ) → has_number n o ≡ true → o ≡ Some n
has_some n None e = absurd (cc e)
has_some n (Some m) e = ap (λ (k : ℕ). Some k) (eqb-true m n e)

pub stands_in : (slots : List (Option ℕ)) (n : ℕ) → stands slots n ≡ true → IsIn n slots
stands_in [] n e = absurd (cc e)
stands_in (o ∷ os) n e = step (stands_in os n) (or_cases (has_number n o) (stands os n) e)
  where
    step : (stands os n ≡ true → IsIn n os) → (has_number n o ≡ true) ⊎ (stands os n ≡ true) → IsIn n (o ∷ os)
    step rest (inl h) = (0, has_some n o h)
    step rest (inr h) = let k = rest h in (suc k.0, k.1)

pub stands_not : (slots : List (Option ℕ)) (n : ℕ) → (IsIn n slots → ⊥) → stands slots n ≡ false
stands_not slots n not = by_value (stands slots n) refl
  where
    by_value : (b : Bool) → stands slots n ≡ b → b ≡ false
    by_value true e = absurd (not (stands_in slots n e))
    by_value false e = refl

-- the number of a seat
pub number_at : (pending : List PackageResult) (seats : List (Option ℕ)) (slot : ℕ) → number_in (numbers_of (places_of pending seats)) slot ≡ option_map (λ (r : PackageResult). r.seq) (seated pending (seat_at seats slot))
number_at pending [] slot = refl
number_at pending (x ∷ xs) zero = refl
number_at pending (x ∷ xs) (suc slot) = number_at pending xs slot

-- the seat of a number
pub record SeatOf (pending : List PackageResult) (seat : Option ℕ) (n : ℕ) : Type 0 where
  pub at : ℕ
  pub kept : PackageResult
  pub seat_is : seat ≡ Some at
  pub is : slice_get pending at ≡ Some kept
  pub seq : kept.seq ≡ n

seat_by : (pending : List PackageResult) (i n : ℕ) (o : Option PackageResult) → slice_get pending i ≡ o → option_map (λ (r : PackageResult). r.seq) o ≡ Some n → SeatOf pending (Some i) n
seat_by pending i n None is e = absurd (cc e)
seat_by pending i n (Some r) is e = record { at = i; kept = r; seat_is = refl; is = is; seq = same_Some r.seq n e }

seat_from : (pending : List PackageResult) (seat : Option ℕ) (n : ℕ) → option_map (λ (r : PackageResult). r.seq) (seated pending seat) ≡ Some n → SeatOf pending seat n
seat_from pending None n e = absurd (cc e)
seat_from pending (Some i) n e = seat_by pending i n (slice_get pending i) refl e

pub seat_of : (pending : List PackageResult) (seats : List (Option ℕ)) (slot n : ℕ) → number_in (numbers_of (places_of pending seats)) slot ≡ Some n → SeatOf pending (seat_at seats slot) n
seat_of pending seats slot n e = seat_from pending (seat_at seats slot) n (sym (number_at pending seats slot) ∙ e)

pub number_of_seat : (pending : List PackageResult) (seats : List (Option ℕ)) (slot i : ℕ) (r : PackageResult) → seat_at seats slot ≡ Some i → slice_get pending i ≡ Some r → number_in (numbers_of (places_of pending seats)) slot ≡ Some r.seq
number_of_seat pending seats slot i r seat is = number_at pending seats slot ∙ ap (λ (o : Option ℕ). option_map (λ (r : PackageResult). r.seq) (seated pending o)) seat ∙ ap (option_map (λ (r : PackageResult). r.seq)) is

-- what stands in the slots has its number there
each_in : (places : List (Option PackageResult)) → Every (λ r. IsIn r.seq (numbers_of places)) (somes places)
each_in [] = tt
each_in (None ∷ ps) = every_map (λ r. IsIn r.seq (numbers_of ps)) (λ r. IsIn r.seq (numbers_of (None ∷ ps))) (somes ps) (λ r i. (suc i.0, i.1)) (each_in ps)
each_in (Some p ∷ ps) = ((0, refl), every_map (λ r. IsIn r.seq (numbers_of ps)) (λ r. IsIn r.seq (numbers_of (Some p ∷ ps))) (somes ps) (λ r i. (suc i.0, i.1)) (each_in ps))

-- each pending result has its number in the slots
pub pending_in : (pending : List PackageResult) (seats : List (Option ℕ)) → AreSeats pending pending seats → Every (λ r. IsIn r.seq (numbers_of (places_of pending seats))) pending
pending_in pending seats h =
    let places = places_of pending seats in
    subst (λ (l : List PackageResult). Every (λ r. IsIn r.seq (numbers_of places)) l) h.each (every_in_order (λ r. IsIn r.seq (numbers_of places)) (somes places) (each_in places))

any_every : (slots : List (Option ℕ)) (rs : List PackageResult) (n : ℕ) → Every (λ r. IsIn r.seq slots) rs → list_any (has_seq n) rs ≡ true → IsIn n slots
any_every slots [] n each e = absurd (cc e)
any_every slots (r ∷ rs) n each e = step (any_every slots rs n each.1) (or_cases (has_seq n r) (list_any (has_seq n) rs) e)
  where
    step : (list_any (has_seq n) rs ≡ true → IsIn n slots) → (has_seq n r ≡ true) ⊎ (list_any (has_seq n) rs ≡ true) → IsIn n slots
    step rest (inl h) = subst (λ (k : ℕ). IsIn k slots) (eqb-true r.seq n h) each.0
    step rest (inr h) = rest h

-- a number is in the slots where it is that of a pending result
pub pending_stands : (pending : List PackageResult) (seats : List (Option ℕ)) (n : ℕ) → AreSeats pending pending seats → list_any (has_seq n) pending ≡ true → IsIn n (numbers_of (places_of pending seats))
pending_stands pending seats n h e = any_every (numbers_of (places_of pending seats)) pending n (pending_in pending seats h) e

pub in_pending : (pending : List PackageResult) (seats : List (Option ℕ)) (n : ℕ) → IsIn n (numbers_of (places_of pending seats)) → list_any (has_seq n) pending ≡ true
in_pending pending seats n i = let s = seat_of pending seats i.0 n i.1 in any_at (has_seq n) pending s.at s.kept s.is (eq-eqb s.kept.seq n s.seq)

-- a slot's result is gone where its number is in none of the other slots
pub gone_from : (pending : List PackageResult) (seats : List (Option ℕ)) (n : ℕ) → AreSeats pending pending seats → (IsIn n (numbers_of (places_of pending seats)) → ⊥) → is_gone pending (Some n) ≡ true
gone_from pending seats n h not_in = by_value (list_any (has_seq n) pending) refl
  where
    by_value : (b : Bool) → list_any (has_seq n) pending ≡ b → not b ≡ true
    by_value true e = absurd (not_in (pending_stands pending seats n h e))
    by_value false e = refl

-- the number of a slot whose result is gone
pub record GoneAt (pending : List PackageResult) (o : Option ℕ) : Type 0 where
  pub n : ℕ
  pub is : o ≡ Some n
  pub none : list_any (has_seq n) pending ≡ false

pub gone_at : (pending : List PackageResult) (o : Option ℕ) → is_gone pending o ≡ true → GoneAt pending o
gone_at pending None e = absurd (cc e)
gone_at pending (Some n) e = by_value (list_any (has_seq n) pending) refl e
  where
    by_value : (b : Bool) → list_any (has_seq n) pending ≡ b → not b ≡ true → GoneAt pending (Some n)
    by_value true f e = absurd (cc e)
    by_value false f e = record { n = n; is = refl; none = f }
