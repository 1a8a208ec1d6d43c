-- One step of a card, over a history that it stands for.
use Rattle.std.specs.Prelude.{◌≡◌, ℕ, Bool, List, None, Some}
use Rattle.small_card.specs.Cards.{FullCard}
use Rattle.small_card.specs.Histories.{History, full_of}
use Rattle.small_card.specs.Legal.{IsLegal}
use Rattle.small_card.specs.Steps.{step_full}
use Rattle.small_card.specs.Units.{CardUnit}
use Rattle.small_card.specs.declared.types.Answer.{Answer}
use Rattle.small_card.specs.declared.types.Command.{Command}
use Rattle.small_card.specs.declared.types.Command.TheVariants as command
use Rattle.package_codec.specs.Checks.{check}
use Rattle.package_codec.specs.Replies.{reply, unit_of, after}
use Rattle.counter_check.specs.Loads.{Request, check_request}
use Rattle.home_codec.specs.FullCards.{full_card}
use Rattle.card_steps.specs.declared.turns.Turn.{Turn}
use Rattle.card_steps.specs.declared.turns.Turn.TheVariants.{Same, Changed}

-- The command was answered as the history replies, and the card stands for the history after it.
pub record IsAnswered (h : History) (c : Command) (now : FullCard) (a : Answer) : Type 0 where
  pub reply_is : a ≡ reply h c
  pub card_is : now ≡ full_of (after h c)
  pub legal : IsLegal (after h c)

-- The command is no unit, and the card stays.
pub record LeavesCard (h : History) (c : Command) (before : FullCard) (a : Answer) : Type 0 where
  pub answered : IsAnswered h c before a
  pub none : unit_of h c ≡ None

-- The command is one unit, and another card, one step on, takes the place of the one before.
pub record ChangesCard (h : History) (c : Command) (before now : FullCard) (a : Answer) : Type 0 where
  pub answered : IsAnswered h c now a
  pub unit : CardUnit
  pub one : unit_of h c ≡ Some unit
  pub step : now ≡ step_full before unit

-- What the command makes of the card.
abbrev pub IsTurn : History → Command → FullCard → Turn → Type 0
IsTurn h c before (Same a) = LeavesCard h c before a
IsTurn h c before (Changed card a) = ChangesCard h c before (full_card card) a

-- The same over every legal history that the card stands for.
abbrev pub Turns : Command → FullCard → Turn → Type 0
Turns c before end = (h : History) → IsLegal h → full_of h ≡ before → IsTurn h c before end

-- What a load whose octets were read as this request makes of the card.
abbrev pub TurnsBy : Request → FullCard → Turn → Type 0
TurnsBy request before end = (h : History) (good : Bool) (bytes : List ℕ) → check h good bytes ≡ check_request h request
    → IsLegal h → full_of h ≡ before → IsTurn h (command.Load good bytes) before end

-- The full card that is left.
abbrev pub left_by : FullCard → Turn → FullCard
left_by before (Same a) = before
left_by before (Changed card a) = full_card card

-- The answer.
abbrev pub answer_of : Turn → Answer
answer_of (Same a) = a
answer_of (Changed card a) = a
