-- Which slot a result takes where one card takes the place of another. Results are told apart by their numbers.
use Rattle.std.specs.Prelude.{◌≡◌, ◌⊎◌, ◌<◌, ℕ, List, length, drop, map, get_or, option_map, IfSome, Option, Some, None}
use Rattle.small_card.specs.Lists.{Every}
use Rattle.small_card.specs.Ranges.{IsResult}
use Rattle.small_card.specs.declared.types.PackageResult.{PackageResult}
use Rattle.home_codec.specs.Homes.{AreSlots}

-- the number of the result in a slot
abbrev pub number_in : List (Option ℕ) → ℕ → Option ℕ
number_in slots slot = get_or slots slot None

-- the result with this number stands in one of the slots
abbrev pub IsIn : ℕ → List (Option ℕ) → Type 0
IsIn n slots = (slot : ℕ) × (number_in slots slot ≡ Some n)

-- of the results that stand in these slots and not in those it is the only one
pub record IsOnlyOne (n : ℕ) (these those : List (Option ℕ)) : Type 0 where
  pub here : IsIn n these
  pub away : IsIn n those → ⊥
  pub alone : (k : ℕ) → IsIn k these → (IsIn k those → ⊥) → k ≡ n

-- exactly one result is gone, the first, and exactly one came, the second
pub record OneForOne (m n : ℕ) (before after : List (Option ℕ)) : Type 0 where
  pub gone : IsOnlyOne m before after
  pub came : IsOnlyOne n after before

-- each lower slot has a result that stayed, or a new one with a lower number
abbrev pub IsLowestFree : ℕ → ℕ → List (Option ℕ) → List (Option ℕ) → Type 0
IsLowestFree slot n before after =
    (lower : ℕ) → lower < slot → (k : ℕ) × (number_in after lower ≡ Some k) × (IsIn k before ⊎ (k < n))

-- a result of both stays in its slot; where exactly one is gone and one came, this one takes its slot; each other new one takes the lowest free slot
pub record KeepsSlots (before after : List (Option ℕ)) : Type 0 where
  pub stays : (slot n : ℕ) → number_in before slot ≡ Some n → IsIn n after → number_in after slot ≡ Some n
  pub takes : (slot m n : ℕ) → number_in before slot ≡ Some m → OneForOne m n before after → number_in after slot ≡ Some n
  pub lowest : (slot n : ℕ) → number_in after slot ≡ Some n → (IsIn n before → ⊥) → ((m : ℕ) → OneForOne m n before after → ⊥) → IsLowestFree slot n before after

-- the numbers of what stands in the slots
abbrev pub numbers_of : List (Option PackageResult) → List (Option ℕ)
numbers_of places = map (option_map (λ r. r.seq)) places

-- slot by slot the home has these results
pub record StandIn (places : List (Option PackageResult)) (home : List ℕ) : Type 0 where
  pub all : length places ≡ 8
  pub ranges : Every (λ place. IfSome place IsResult) places
  pub size : length home ≡ 172288
  pub stand : AreSlots places (drop 6400 home)

-- what stands in the slots of the one home and of the other
abbrev pub HomesKeepSlots : List ℕ → List ℕ → Type 0
HomesKeepSlots old new =
    (before after : List (Option PackageResult)) → StandIn before old → StandIn after new → KeepsSlots (numbers_of before) (numbers_of after)
