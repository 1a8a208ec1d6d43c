-- The card that a bench card has.
use Rattle.std.specs.Prelude.{Option, Some, None}
use Rattle.small_card.specs.Cards.{FullCard}

-- the full card, where there is a card and it is lit
abbrev pub lit_card : Option (Option FullCard) → Option FullCard
lit_card None = None
lit_card (Some held) = held
