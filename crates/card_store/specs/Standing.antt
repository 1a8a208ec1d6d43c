-- What an image of the chip stands for.
use Rattle.std.specs.Prelude.{◌≡◌, ◌⊎◌, ℕ, false, List, Some}
use Rattle.chip_port.specs.Seen.{Seen}
use Rattle.chip_port.specs.Rules.{Only}
use Rattle.undo_journal.specs.Home.{home, is_open}
use Rattle.small_card.specs.Cards.{FullCard}
use Rattle.small_card.specs.Valid.{IsValid}
use Rattle.home_codec.specs.Homes.{HasFields}

-- the home of the image has the fields of the card, and the card is valid
pub record Stands (f : FullCard) (image : List ℕ) : Type 0 where
  pub blocks : List ℕ
  pub there : home image ≡ Some blocks
  pub fields : HasFields f blocks
  pub valid : IsValid f

-- the image stands for one of two cards
abbrev pub StandsForEither : FullCard → FullCard → List ℕ → Type 0
StandsForEither c d image = Stands c image ⊎ Stands d image

-- a cut may leave one image alone, behind a closed gate, and it stands for the card
pub record IsSettled (f : FullCard) (s : Seen) : Type 0 where
  pub alone : Only s.reads s.leaves
  pub shut : is_open s.reads ≡ false
  pub stands : Stands f s.reads
