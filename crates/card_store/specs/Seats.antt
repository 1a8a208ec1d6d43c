-- Which pending result stands in which slot.
use Rattle.std.specs.Prelude.{◌≡◌, ◌⊎◌, ◌<◌, ◌==◌, ◌||◌, not, Bool, true, false, ℕ, List, ◌++◌, length, map, filter, take, drop, slice_get, get_or, Option, Some, None}
use Rattle.std.specs.List.{list_any, list_all}
use Rattle.small_card.specs.Units.{has_seq}
use Rattle.small_card.specs.declared.types.PackageResult.{PackageResult}
use Rattle.home_codec.specs.Ordering.{somes, in_order}
use Rattle.card_store.specs.Slots.{number_in, numbers_of, StandIn}

-- the result of a seat: seats name results by their place among the pending ones
abbrev pub seated : List PackageResult → Option ℕ → Option PackageResult
seated pending None = None
seated pending (Some i) = slice_get pending i

-- the seat of a slot
abbrev pub seat_at : List (Option ℕ) → ℕ → Option ℕ
seat_at seats slot = get_or seats slot None

-- what stands in each slot
abbrev pub places_of : List PackageResult → List (Option ℕ) → List (Option PackageResult)
places_of pending seats = map (seated pending) seats

-- the seats give each of these results one slot, and stand for no other
pub record AreSeats (pending rs : List PackageResult) (seats : List (Option ℕ)) : Type 0 where
  pub all : length seats ≡ 8
  pub each : in_order (somes (places_of pending seats)) ≡ rs

-- the slot's result has this number
abbrev pub has_number : ℕ → Option ℕ → Bool
has_number n None = false
has_number n (Some m) = m == n

-- a result with this number stands in one of the slots
abbrev pub stands : List (Option ℕ) → ℕ → Bool
stands slots n = list_any (has_number n) slots

-- no result has the seat
abbrev pub is_free : Option ℕ → Bool
is_free None = true
is_free (Some i) = false

-- the slot's result is none of these
abbrev pub is_gone : List PackageResult → Option ℕ → Bool
is_gone pending None = false
is_gone pending (Some n) = not (list_any (has_seq n) pending)

-- of the slots whose results are gone it is the only one
pub record IsOnlyGone (pending : List PackageResult) (slots : List (Option ℕ)) (slot : ℕ) : Type 0 where
  pub gone : is_gone pending (number_in slots slot) ≡ true
  pub alone : (other : ℕ) → is_gone pending (number_in slots other) ≡ true → other ≡ slot

-- each result but this one stands in a slot
abbrev pub others_stand : List (Option ℕ) → List PackageResult → ℕ → Bool
others_stand slots pending n = list_all (λ r. r.seq == n || stands slots r.seq) pending

-- one is gone and this one came
pub record IsFreed (slots : List (Option ℕ)) (pending : List PackageResult) (n slot : ℕ) : Type 0 where
  pub gone : IsOnlyGone pending slots slot
  pub came : others_stand slots pending n ≡ true

-- the slot that is left where one is gone and this one came, or the lowest free one
abbrev pub IsSlotOfNew : List (Option ℕ) → List PackageResult → List (Option ℕ) → ℕ → ℕ → Type 0
IsSlotOfNew slots pending seats n slot =
    IsFreed slots pending n slot
    ⊎ (((other : ℕ) → IsFreed slots pending n other → ⊥) × (seat_at seats slot ≡ None)
    × ((lower : ℕ) → lower < slot → (i : ℕ) × (seat_at seats lower ≡ Some i)))

-- the result of a slot has stayed in it
pub record Stayed (slots : List (Option ℕ)) (pending : List PackageResult) (slot i : ℕ) : Type 0 where
  pub kept : PackageResult
  pub is : slice_get pending i ≡ Some kept
  pub here : number_in slots slot ≡ Some kept.seq

-- each slot below has a result that stayed, or one before this
abbrev pub AreBelow : List (Option ℕ) → List PackageResult → List (Option ℕ) → ℕ → ℕ → Type 0
AreBelow slots pending seats slot i =
    (lower : ℕ) → lower < slot → (k : ℕ) × (seat_at seats lower ≡ Some k) × (Stayed slots pending lower k ⊎ (k < i))

-- the result of a slot came
pub record Came (slots : List (Option ℕ)) (pending : List PackageResult) (seats : List (Option ℕ)) (slot i : ℕ) : Type 0 where
  pub kept : PackageResult
  pub is : slice_get pending i ≡ Some kept
  pub new : stands slots kept.seq ≡ false
  pub place : IsFreed slots pending kept.seq slot
      ⊎ (((other : ℕ) → IsFreed slots pending kept.seq other → ⊥) × AreBelow slots pending seats slot i)

-- the number of a slot is told, where it is known what stands in the slots of the home
abbrev pub TellsNumber : Option ℕ → ℕ → List ℕ → Type 0
TellsNumber number slot home = (places : List (Option PackageResult)) → StandIn places home → number ≡ number_in (numbers_of places) slot

-- the numbers of all slots are told
abbrev pub TellsNumbers : List (Option ℕ) → List ℕ → Type 0
TellsNumbers numbers home = (places : List (Option PackageResult)) → StandIn places home → numbers ≡ numbers_of places

-- those that have stayed
abbrev pub staying : List (Option ℕ) → List PackageResult → List PackageResult
staying slots pending = filter (λ r. stands slots r.seq) pending

-- these results have seats, each of them one that has stayed
pub record Keeping (slots : List (Option ℕ)) (pending : List PackageResult) (n : ℕ) (seats : List (Option ℕ)) : Type 0 where
  pub ordered : AreSeats pending (staying slots (take n pending)) seats
  pub count : length (somes seats) ≡ length (staying slots (take n pending))
  pub each : (slot i : ℕ) → seat_at seats slot ≡ Some i → Stayed slots pending slot i × (i < n)

-- all that have stayed have seats, and the first n of those that came
pub record Filling (slots : List (Option ℕ)) (pending : List PackageResult) (n : ℕ) (seats : List (Option ℕ)) : Type 0 where
  pub ordered : AreSeats pending (take n pending ++ staying slots (drop n pending)) seats
  pub count : length (somes seats) ≡ length (take n pending ++ staying slots (drop n pending))
  pub each : (slot i : ℕ) → seat_at seats slot ≡ Some i → Stayed slots pending slot i ⊎ (Came slots pending seats slot i × (i < n))

-- no two slots have one number
abbrev pub AreApart : List (Option ℕ) → Type 0
AreApart slots = (slot other n : ℕ) → number_in slots slot ≡ Some n → number_in slots other ≡ Some n → slot ≡ other
