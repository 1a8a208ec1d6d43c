-- Making a card on a chip.
use Rattle.std.specs.Prelude.{◌≡◌, ◌⊎◌, ℕ, Bool, true, false, List, None, Some, Result, Ok, Err}
use Rattle.chip_port.specs.Seen.{Seen}
use Rattle.chip_port.specs.Rules.{Torn, Untouched}
use Rattle.chip_port.specs.Runs.{Ran}
use Rattle.undo_journal.specs.Home.{home, home_in, has_magic, is_open}
use Rattle.undo_journal.specs.States.{IsIdle}
use Rattle.small_card.specs.Cards.{FullCard}
use Rattle.home_codec.specs.declared.card.Card.{Card}
use Rattle.card_store.specs.declared.ends.MakeError.{MakeError}
use Rattle.card_store.specs.declared.ends.MakeError.TheVariants as make
use Rattle.card_store.specs.Standing.{Stands, IsSettled}

-- one that a cut could leave before, but for its first eight octets
abbrev pub ButForMagic : Seen → List ℕ → Type 0
ButForMagic old image = (before : List ℕ) × old.leaves before × Torn 0 8 before image

-- what a cut leaves while a card is made: first the images before without their magic, then no home, and at last the new card or no home
abbrev pub InTheMaking : FullCard → Seen → List ℕ → Type 0
InTheMaking d old image = ButForMagic old image ⊎ ((home image ≡ None) ⊎ Stands d image)

-- how a format ends
abbrev pub Formats : FullCard → Result Card MakeError → Seen → Seen → Type 0
Formats d (Ok card) old new = Ran 2000 true (InTheMaking d old) old new × IsSettled d new
Formats d (Err make.Failed) old new = Ran 2000 false (InTheMaking d old) old new
Formats d (Err make.NoMemory) old new = Untouched (λ t. t) old new

-- the magic is zeroed and synced
pub record Erases (ok : Bool) (old new : Seen) : Type 0 where
  pub ran : Ran 2 ok (ButForMagic old) old new
  pub alone : ok ≡ true → (i : List ℕ) → new.leaves i → i ≡ new.reads
  pub blank : ok ≡ true → has_magic new.reads ≡ false

-- the gate and the home are written, and synced, where there is no magic
pub record Fills (blocks : List ℕ) (ok : Bool) (old new : Seen) : Type 0 where
  pub ran : Ran 3 ok (λ i. has_magic i ≡ false) old new
  pub alone : ok ≡ true → (i : List ℕ) → new.leaves i → i ≡ new.reads
  pub shut : ok ≡ true → is_open new.reads ≡ false
  pub home_now : ok ≡ true → home_in new.reads ≡ blocks

-- the magic is written, and synced, over a home behind a closed gate
pub record Signs (blocks : List ℕ) (ok : Bool) (old new : Seen) : Type 0 where
  pub ran : Ran 2 ok (λ i. (home i ≡ None) ⊎ (home i ≡ Some blocks)) old new
  pub idle : ok ≡ true → IsIdle new
  pub home_now : ok ≡ true → home_in new.reads ≡ blocks

-- a whole new image; a cut on the way leaves the images before without their magic, no home, or the new one
pub record Makes (blocks : List ℕ) (ok : Bool) (old new : Seen) : Type 0 where
  pub ran : Ran 7 ok (λ i. ButForMagic old i ⊎ ((home i ≡ None) ⊎ (home i ≡ Some blocks))) old new
  pub idle : ok ≡ true → IsIdle new
  pub home_now : ok ≡ true → home_in new.reads ≡ blocks
