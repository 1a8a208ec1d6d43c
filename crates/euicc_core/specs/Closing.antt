-- How a step is closed: what a command made of the card is written and answered.
use Rattle.std.specs.Prelude.{true, false, Option, Some, None, Result, Ok, Err}
use Rattle.chip_port.specs.Seen.{Seen}
use Rattle.chip_port.specs.Rules.{Untouched}
use Rattle.chip_port.specs.Runs.{Ran}
use Rattle.small_card.specs.Cards.{FullCard}
use Rattle.card_store.specs.declared.ends.StageError.{StageError}
use Rattle.card_store.specs.declared.ends.StageError.TheVariants as stage
use Rattle.card_store.specs.Standing.{Stands, StandsForEither, IsSettled}
use Rattle.card_store.specs.Looking.{Looks}
use Rattle.euicc_core.specs.Answers.{Answers}
use Rattle.euicc_core.specs.Steps.{IsOneAnswer}
use Rattle.euicc_core.specs.declared.ends.StepEnd.{StepEnd}
use Rattle.euicc_core.specs.declared.ends.StepEnd.TheVariants.{Lost, NoMemory}

-- why it failed, if it did
abbrev pub failure_of : {T : Type 0} → Result T StageError → Option StageError
failure_of (Ok x) = None
failure_of (Err e) = Some e

-- a unit was staged and committed: the second card takes the place of the first
abbrev pub Writes : FullCard → FullCard → Option StageError → Seen → Seen → Type 0
Writes c d None old new = Ran 7000 true (StandsForEither c d) old new × IsSettled d new
Writes c d (Some stage.Failed) old new = Ran 7000 false (StandsForEither c d) old new
Writes c d (Some stage.NoMemory) old new = Looks 3000 old new × IsSettled c new

-- it was staged, committed and answered
abbrev pub ClosesUnit : FullCard → FullCard → Option StageError → Seen → Seen → Type 0
ClosesUnit c d None old new = Answers (StandsForEither c d) d old new
ClosesUnit c d (Some stage.Failed) old new = Ran 10000 false (StandsForEither c d) old new
ClosesUnit c d (Some stage.NoMemory) old new = Looks 10000 old new × IsSettled c new

-- a card that stays was answered for
abbrev pub ClosesSame : FullCard → Option StageError → Seen → Seen → Type 0
ClosesSame c None old new = Answers (Stands c) c old new × IsOneAnswer true old new
ClosesSame c (Some stage.Failed) old new = Ran 10000 false (Stands c) old new × IsOneAnswer false old new
ClosesSame c (Some stage.NoMemory) old new = Untouched (λ t. t) old new

-- how a step ends that failed
abbrev pub end_of_failure : StageError → StepEnd
end_of_failure stage.Failed = Lost
end_of_failure stage.NoMemory = NoMemory

-- the card that it leaves, if it is lit
abbrev pub left_by_failure : Option FullCard → StageError → Option FullCard
left_by_failure before stage.Failed = None
left_by_failure before stage.NoMemory = before
