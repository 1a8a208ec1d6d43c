-- One step of a card on its chip.
use Rattle.std.specs.Prelude.{◌≡◌, ◌≤◌, Bool, true, false, Option, Some, None, IfSome}
use Rattle.iot_bytes.specs.Causes.{Rose}
use Rattle.chip_port.specs.Seen.{Seen, called}
use Rattle.chip_port.specs.Rules.{Same, Untouched}
use Rattle.chip_port.specs.Runs.{Ran}
use Rattle.small_card.specs.Cards.{FullCard}
use Rattle.small_card.specs.Histories.{History, full_of}
use Rattle.small_card.specs.Legal.{IsLegal}
use Rattle.small_card.specs.Ranges.{IsAnswer}
use Rattle.small_card.specs.Units.{CardUnit}
use Rattle.small_card.specs.declared.types.Answer.{Answer}
use Rattle.small_card.specs.declared.types.Command.{Command}
use Rattle.package_codec.specs.Replies.{reply, unit_of, after}
use Rattle.card_store.specs.Standing.{IsSettled}
use Rattle.card_store.specs.Looking.{Looks}
use Rattle.card_store.specs.Holding.{StandsAt}
use Rattle.euicc_core.specs.Answers.{Answers}
use Rattle.euicc_core.specs.declared.ends.StepEnd.{StepEnd}
use Rattle.euicc_core.specs.declared.ends.StepEnd.TheVariants.{Answered, Lost, Dark, NoMemory}

-- a lit card's chip is settled on it
abbrev pub IsLitOn : Option FullCard → Seen → Type 0
IsLitOn card s = IfSome card (λ c. IsSettled c s)

-- the answer is the reply of the history, and the card is that of the history after the command
pub record IsReply (h : History) (c : Command) (now : Option FullCard) (a : Answer) : Type 0 where
  pub reply_is : a ≡ reply h c
  pub card_is : now ≡ Some (full_of (after h c))
  pub legal : IsLegal (after h c)

-- on every chip: the command is answered over each legal history that the card stands for; a card whose step was lost is dark, and else it stays
abbrev pub Steps : Command → Option FullCard → Option FullCard → StepEnd → Type 0
Steps c before now (Answered a) = (h : History) → IsLegal h → before ≡ Some (full_of h) → IsReply h c now a
Steps c before now Lost = now ≡ None
Steps c before now Dark = now ≡ before
Steps c before now NoMemory = now ≡ before

-- the count of faults never falls, and a step is lost only where it rose
pub record HasCauseOfStep (end : StepEnd) (old new : Seen) : Type 0 where
  pub told : new.told ≡ old.told
  pub monotone : old.faults ≤ new.faults
  pub lost : end ≡ Lost → Rose old.faults new.faults

-- how a step ends while this unit, or none, is in progress, and this history follows
abbrev pub EndsAt : History → Option CardUnit → History → StepEnd → Seen → Seen → Type 0
EndsAt h u next (Answered a) old new = Answers (StandsAt h u) (full_of next) old new
EndsAt h u next Lost old new = Ran 10000 false (StandsAt h u) old new
EndsAt h u next Dark old new = ⊥
EndsAt h u next NoMemory old new = Looks 10000 old new × IsSettled (full_of h) new

-- nothing is written, and the answer is the only call
pub record IsOneAnswer (ok : Bool) (old new : Seen) : Type 0 where
  pub reads : new.reads ≡ old.reads
  pub leaves : Same old.leaves new.leaves
  pub once : new.tally ≡ called ok old.tally

-- how a step ends that makes no call but its answer; for want of memory it makes none
abbrev pub AnswersAlone : StepEnd → Seen → Seen → Type 0
AnswersAlone (Answered a) old new = IsOneAnswer true old new
AnswersAlone Lost old new = IsOneAnswer false old new
AnswersAlone Dark old new = ⊥
AnswersAlone NoMemory old new = Untouched (λ t. t) old new

-- what the step of a command makes of a chip that is settled on the card of the history
pub record IsChipStep (h : History) (c : Command) (end : StepEnd) (old new : Seen) : Type 0 where
  pub ends : EndsAt h (unit_of h c) (after h c) end old new
  pub no_unit : unit_of h c ≡ None → AnswersAlone end old new

-- the same over every legal history that the card stands for
abbrev pub ChipSteps : Command → Option FullCard → StepEnd → Seen → Seen → Type 0
ChipSteps c before end old new = (h : History) → IsLegal h → before ≡ Some (full_of h) → IsChipStep h c end old new

-- an answer is in range
abbrev pub IsInRange : StepEnd → Type 0
IsInRange (Answered a) = IsAnswer a
IsInRange Lost = Unit {0}
IsInRange Dark = Unit {0}
IsInRange NoMemory = Unit {0}
