-- A run that ends with the answer of a card.
use Rattle.std.specs.Prelude.{ℕ, List}
use Rattle.chip_port.specs.Seen.{Seen}
use Rattle.chip_port.specs.Runs.{Ended}
use Rattle.small_card.specs.Cards.{FullCard}
use Rattle.card_store.specs.Standing.{Stands, IsSettled}

-- the answer left the card: before it a cut left what has P, since then what stands for this card alone, and the chip is settled on it
pub record Answers (P : List ℕ → Type 0) (card : FullCard) (old new : Seen) : Type 0 where
  pub ended : Ended 10000 P (Stands card) old new
  pub settled : IsSettled card new
