-- Personalising a card, and powering up the one that stands on a chip.
use Rattle.std.specs.Prelude.{◌≡◌, ◌⊎◌, ℕ, Bool, true, false, List, Option, Some, Result, Ok, Err}
use Rattle.chip_port.specs.Seen.{Seen}
use Rattle.chip_port.specs.Rules.{Untouched}
use Rattle.chip_port.specs.Runs.{Ran}
use Rattle.small_card.specs.Cards.{FullCard}
use Rattle.card_store.specs.Standing.{Stands}
use Rattle.card_store.specs.Loading.{StandsAs, IsAsBefore, IsKept}
use Rattle.card_store.specs.Formatting.{InTheMaking}
use Rattle.card_store.specs.declared.ends.LoadEnd.{LoadEnd}
use Rattle.card_store.specs.declared.ends.LoadEnd.TheVariants as load
use Rattle.card_store.specs.declared.ends.MakeError.{MakeError}
use Rattle.card_store.specs.declared.ends.MakeError.TheVariants as make
use Rattle.euicc_core.specs.Answers.{Answers}
use Rattle.euicc_core.specs.declared.ends.OpenError.{OpenError}
use Rattle.euicc_core.specs.declared.ends.OpenError.TheVariants as open_end

-- the card that the content stood for is lit: whatever a cut left since the last answer was there at entry or stands for it, and the chip is settled on it
pub record IsOpened (held : Option FullCard) (old new : Seen) : Type 0 where
  pub card : FullCard
  pub lit : held ≡ Some card
  pub stood : Stands card old.reads
  pub answered : Answers (Stands card) card old new

-- without an answer: whatever a cut left was there at entry, or stands for the card that the content stood for
pub record IsUnopened (ok : Bool) (old new : Seen) : Type 0 where
  pub ran : Ran 10000 ok (IsAsBefore old) old new
  pub adds : (k : ℕ) (i : List ℕ) → new.left k i → old.left k i ⊎ ((k ≡ old.marks.answers) × StandsAs old.reads i)

-- how an opening ends
abbrev pub Opens : Result (Option FullCard) OpenError → Seen → Seen → Type 0
Opens (Ok held) old new = IsOpened held old new
Opens (Err open_end.Failed) old new = IsUnopened false old new
Opens (Err open_end.Unrecognised) old new = IsUnopened true old new × ((card : FullCard) → Stands card old.reads → ⊥)
Opens (Err open_end.NoMemory) old new = IsUnopened true old new × IsKept old new

-- how the making of a card ends; for want of memory no call was made
abbrev pub Personalises : FullCard → Result (Option FullCard) MakeError → Seen → Seen → Type 0
Personalises card (Ok held) old new = Answers (InTheMaking card old) card old new
Personalises card (Err make.Failed) old new = Ran 10000 false (InTheMaking card old) old new
Personalises card (Err make.NoMemory) old new = Untouched (λ t. t) old new

-- an opening whose load ended so
abbrev pub of_load : LoadEnd → OpenError
of_load load.Failed = open_end.Failed
of_load load.Unrecognised = open_end.Unrecognised
of_load load.NoMemory = open_end.NoMemory
