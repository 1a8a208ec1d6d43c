-- Which entries a manager table has.
use Rattle.std.specs.Prelude.{ℕ, ◌≤◌, ◌<◌, Bool, List, find, MatchOption}
use Rattle.sgp_values.specs.Ranges.{IsEimId, IsAddress, IsKey}
use Rattle.small_card.specs.Cards.{EimList}
use Rattle.small_card.specs.EimOperations.{is_eim}
use Rattle.small_card.specs.Numbered.{AreNumbered, are_numbered}
use Rattle.small_card.specs.Pairs.{are_entries_apart}
use Rattle.small_card.specs.Ranges.{greatest_counter}
use Rattle.small_card.specs.Valid.{AreEntriesApart}
use Rattle.small_card.specs.declared.types.EimEntry.{EimEntry}
use Rattle.small_card.specs.declared.limits.TheConstants.{MOST_EIMS}

-- At most 8 entries have identifiers and associations of their own, and the next one is from 1.
abbrev pub IsEims : EimList → Type 0
IsEims ms = AreNumbered MOST_EIMS (λ e. e.association) AreEntriesApart ms.next ms.entries

-- The test of it.
unfoldable pub are_eims : EimList → Bool
are_eims ms = are_numbered MOST_EIMS (λ e. e.association) are_entries_apart ms.next ms.entries

-- An entry's fields are in their ranges.
pub record IsInRange (e : EimEntry) : Type 0 where
  pub id : IsEimId e.id
  pub address : IsAddress e.address
  pub key : IsKey e.key
  pub counter : e.counter ≤ greatest_counter

-- The eIM has an entry, and its counter is lower.
abbrev pub MayCount : List ℕ → ℕ → List EimEntry → Type 0
MayCount id counter es = MatchOption (find (is_eim id) es) ⊥ (λ e. e.counter < counter)
