-- Before its first frame a card stands for what it stood for, and its chip rests.
use Rattle.std.proofs.Common.{[], Option, Some, None, refl, arith}
use Rattle.chip_port.specs.Seen.{Seen}
use Rattle.chip_port.specs.Runs.{Went}
use Rattle.chip_port.proofs.Runs.{smooth_none}
use Rattle.small_card.specs.Cards.{FullCard}
use Rattle.small_card.specs.Histories.{History}
use Rattle.small_card.proofs.Accepting.{legal_once}
use Rattle.lone_card.specs.Cards.{history_of, output, Begins, IsRightful}
use Rattle.lone_card.specs.Marks.{marks_from}
use Rattle.lone_card.specs.Answering.{StandsFor}
use Rattle.lone_card.specs.Walks.{LedTo, ChipLed}

-- a card that stands for a history is one whose packages took effect once
pub stands_rightful : (card : Option (Option FullCard)) (o : Option History) → StandsFor card o → IsRightful o
stands_rightful None None s = tt
stands_rightful None (Some h) s = absurd s
stands_rightful (Some card) None s = absurd s
stands_rightful (Some card) (Some h) s = (s.1, legal_once h s.1)

none_begins : (o : Option History) → Begins o []
none_begins (Some h) = tt
none_begins None = tt

chip_led_nowhere : (start : Option History) (s : Seen) → ChipLed start [] s s
unfolding history_of marks_from Went
chip_led_nowhere start s = record { calls = smooth_none s.tally; rests = λ first at. at }

-- no frame leads nowhere
pub led_nowhere : (card : Option (Option FullCard)) (s : Seen) → LedTo card s card s [] []
unfolding history_of output
led_nowhere card s = λ start stands. record {
  stands = stands;
  answered = record { sent = refl; begins = none_begins start; rightful = stands_rightful card start stands };
  later = record { told = refl; monotone = omega arith };
  chip = λ told. chip_led_nowhere start s;
}
