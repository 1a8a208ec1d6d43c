-- What a card that answers frames stands for.
use Rattle.std.specs.Prelude.{◌≡◌, ℕ, List, ◌++◌, Option, Some, None, Result, Ok, Err}
use Rattle.small_card.specs.Cards.{FullCard}
use Rattle.small_card.specs.Histories.{History, full_of}
use Rattle.small_card.specs.Legal.{IsLegal}
use Rattle.small_card.specs.declared.types.Answer.{Answer}
use Rattle.small_card.specs.declared.types.Command.{Command}
use Rattle.es10_codec.specs.Spelling.{answer}
use Rattle.euicc_core.specs.declared.ends.StepEnd.{StepEnd}
use Rattle.euicc_core.specs.declared.ends.StepEnd.TheVariants as step
use Rattle.run_loop.specs.declared.halt.PartStop.{PartStop}
use Rattle.run_loop.specs.declared.halt.PartStop.TheVariants.{ChipFault, Malformed, Unrecognised, NoMemory}
use Rattle.lone_card.specs.Cards.{started, reply_to, after_frame, history_of, output, Begins, IsRightful}

-- A lit card stands for a legal history, and one that isn't there for none. A dark card stands for nothing.
abbrev pub StandsFor : Option (Option FullCard) → Option History → Type 0
StandsFor None None = Unit {0}
StandsFor None (Some h) = ⊥
StandsFor (Some held) None = ⊥
StandsFor (Some held) (Some h) = (held ≡ Some (full_of h)) × IsLegal h

-- These frames were answered, with this text.
pub record AreAnswered (start : Option History) (fs : List (List ℕ)) (text : List ℕ) : Type 0 where
  pub sent : text ≡ output start fs
  pub begins : Begins start fs
  pub rightful : IsRightful (history_of start fs)

-- Behind this history a frame has no answer for this reason: a call of the chip failed, the frame has no reply, or
-- memory is wanting.
abbrev pub HasNoReply : Option History → List ℕ → PartStop → Type 0
HasNoReply o f ChipFault = Unit {0}
HasNoReply o f Malformed = ⊥
HasNoReply o f Unrecognised = reply_to o f ≡ None
HasNoReply o f NoMemory = Unit {0}

-- The card's reply to a frame, over a history that it stands for, or none.
abbrev pub Replied : Option History → List ℕ → Option (Option FullCard) → Result Answer PartStop → Type 0
Replied o f card (Ok a) = (reply_to o f ≡ Some a) × StandsFor card (after_frame o f)
Replied o f card (Err stop) = HasNoReply o f stop

-- The card that a command makes.
pub record IsBegun (c : Option Command) (held : Option FullCard) : Type 0 where
  pub history : History
  pub starts : started c ≡ Some history
  pub holds : held ≡ Some (full_of history)
  pub legal : IsLegal history

-- The card that a command makes, or why it makes none.
abbrev pub BegunBy : Option Command → Result (Option FullCard) PartStop → Type 0
BegunBy c (Ok held) = IsBegun c held
BegunBy c (Err ChipFault) = Unit {0}
BegunBy c (Err Malformed) = ⊥
BegunBy c (Err Unrecognised) = started c ≡ None
BegunBy c (Err NoMemory) = Unit {0}

-- The answer of a step, or why it has none.
abbrev pub of_step : StepEnd → Result Answer PartStop
of_step (step.Answered a) = Ok a
of_step step.Lost = Err ChipFault
of_step step.Dark = Err ChipFault
of_step step.NoMemory = Err NoMemory

-- The octets of this answer, or of none for this reason, were appended; or memory was wanting for them.
abbrev pub Puts : Result Answer PartStop → List ℕ → List ℕ → Result (Unit {0}) PartStop → Type 0
Puts (Ok a) out out' (Ok done) = out' ≡ out ++ answer a
Puts (Ok a) out out' (Err stop) = stop ≡ NoMemory
Puts (Err reason) out out' (Ok done) = ⊥
Puts (Err reason) out out' (Err stop) = stop ≡ reason
