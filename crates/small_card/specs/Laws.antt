-- The words of the laws of histories.
use Rattle.std.specs.Prelude.{ℕ, ◌≡◌, ◌≤◌, ◌<◌, true, List, length}
use Rattle.small_card.specs.Lists.{Every}
use Rattle.small_card.specs.Cards.{SmallCard}
use Rattle.small_card.specs.Profiles.{is_enabled}
use Rattle.small_card.specs.Units.{CardUnit, initial, load, rollback, remove}
use Rattle.small_card.specs.Histories.{History, card_of, kept}
use Rattle.small_card.specs.declared.types.Profile.{Profile}

-- This profile is enabled, and no other.
pub record IsAlone (iccid : List ℕ) (ps : List Profile) : Type 0 where
  pub enabled : is_enabled iccid ps ≡ true
  pub others : Every (λ p. p.enabled ≡ true → p.iccid ≡ iccid) ps

-- Each entry's counter is the one that the history keeps for its identifier and association.
unfoldable pub IsCounted : History → Type 0
IsCounted h = Every (λ e. e.counter ≡ kept h e.id e.association) (card_of h).eims.entries

-- An initial raises the next association, a load and a rollback the next number; a remove shortens.
unfoldable pub Moves : CardUnit → SmallCard → SmallCard → Type 0
Moves (initial id address key) before after = before.eims.next < after.eims.next
Moves (load p) before after = before.results.next < after.results.next
Moves rollback before after = before.results.next < after.results.next
Moves (remove seq) before after = length after.results.pending < length before.results.pending

-- Neither of the next numbers goes back.
pub record HasPassed (before after : SmallCard) : Type 0 where
  pub associations : before.eims.next ≤ after.eims.next
  pub numbers : before.results.next ≤ after.results.next

-- Both next numbers and the count of pending results are the same.
pub record AreAlikeInNumbers (c d : SmallCard) : Type 0 where
  pub associations : c.eims.next ≡ d.eims.next
  pub numbers : c.results.next ≡ d.results.next
  pub pending : length c.results.pending ≡ length d.results.pending
