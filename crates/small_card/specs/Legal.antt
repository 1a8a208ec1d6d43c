-- The histories that may happen, and what taking each package once means.
use Rattle.std.specs.Prelude.{ℕ, ◌≡◌, ◌<◌, true, List, [], ◌∷◌, None, IsSome}
use Rattle.small_card.specs.Lists.{Every, EveryPair}
use Rattle.small_card.specs.Cards.{SmallCard, FullCard}
use Rattle.small_card.specs.Units.{CardUnit, initial, load, rollback, remove, is_pending}
use Rattle.small_card.specs.Histories.{History, card_of, former_of, load_counters, entry_counters}
use Rattle.small_card.specs.Checks.{value_refusal}
use Rattle.small_card.specs.EimOperations.{last_association}
use Rattle.small_card.specs.Ranges.{IsPackage}
use Rattle.small_card.specs.Valid.{IsValid}
use Rattle.sgp_values.specs.Ranges.{IsEimId, IsAddress, IsKey}
use Rattle.small_card.specs.declared.types.Package.{Package}

-- A load is in range and passes the checks over its values.
pub record MayLoad (h : History) (p : Package) : Type 0 where
  pub range : IsPackage p
  pub checks : value_refusal h p ≡ None

-- A first eIM is in range, and finds no eIM and an association that is left.
pub record MayInitial (c : SmallCard) (i a k : List ℕ) : Type 0 where
  pub id : IsEimId i
  pub address : IsAddress a
  pub key : IsKey k
  pub empty : c.eims.entries ≡ []
  pub next : c.eims.next < last_association

-- A unit may happen next: a rollback is permitted, a removed result is pending.
unfoldable pub May : History → CardUnit → Type 0
May h (initial id address key) = MayInitial (card_of h) id address key
May h (load p) = MayLoad h p
May h rollback = IsSome (former_of h)
May h (remove seq) = is_pending seq (card_of h).results.pending ≡ true

-- From a valid start, each unit may happen after the units before it.
unfoldable pub IsLegalFrom : FullCard → List CardUnit → Type 0
IsLegalFrom start [] = IsValid start
IsLegalFrom start (u ∷ us) = IsLegalFrom start us × May (record { start = start; units = us }) u

-- A history is legal where it begins validly and each unit may happen after those before it.
unfoldable pub IsLegal : History → Type 0
IsLegal h = IsLegalFrom h.start h.units

-- The second number is below the first.
abbrev pub IsBelow : ℕ → ℕ → Type 0
IsBelow n m = m < n

-- For each pair of identifier and association the loads' counters rise, each above the start's.
pub record IsOnce (h : History) : Type 0 where
  pub rising : (id : List ℕ) (association : ℕ) → EveryPair IsBelow (load_counters id association h.units)
  pub above : (id : List ℕ) (association : ℕ) → Every (λ n. Every (IsBelow n) (entry_counters id association h.start.card.eims.entries)) (load_counters id association h.units)
