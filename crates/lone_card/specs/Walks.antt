-- What frames make of a card and of its chip, from one moment to another.
use Rattle.std.specs.Prelude.{◌≡◌, ◌⊎◌, ℕ, ◌+◌, ◌*◌, ◌≤◌, true, false, List, [], ◌∷◌, ◌++◌, length, Option}
use Rattle.iot_bytes.specs.Causes.{Rose}
use Rattle.chip_port.specs.Seen.{Seen}
use Rattle.chip_port.specs.Rules.{IfTold}
use Rattle.chip_port.specs.Runs.{Went}
use Rattle.small_card.specs.Cards.{FullCard}
use Rattle.small_card.specs.Histories.{History}
use Rattle.run_loop.specs.declared.halt.PartStop.{PartStop}
use Rattle.run_loop.specs.declared.halt.PartStop.TheVariants.{ChipFault, Malformed, Unrecognised, NoMemory}
use Rattle.lone_card.specs.Cards.{history_of}
use Rattle.card_store.specs.Holding.{tried}
use Rattle.lone_card.specs.Marks.{unit_in, opened, marks_of}
use Rattle.lone_card.specs.Answering.{StandsFor, AreAnswered, HasNoReply}
use Rattle.lone_card.specs.Benches.{HoldsFrom, Rests}

-- Whether the chip tells its content stays, and its count of faults never falls.
pub record IsLater (s t : Seen) : Type 0 where
  pub told : t.told ≡ s.told
  pub monotone : s.faults ≤ t.faults

-- These frames led from a chip that rests to one that rests.
pub record ChipLed (start : Option History) (fs : List (List ℕ)) (s t : Seen) : Type 0 where
  pub calls : Went (10000 * length fs) true s.tally t.tally
  pub rests : (first : ℕ) → Rests s first start (opened start) → Rests t first (history_of start fs) (marks_of start fs)

-- From this history on these frames, with this text, led to this card and chip.
pub record IsLed (start : Option History) (card : Option (Option FullCard)) (s t : Seen) (fs : List (List ℕ)) (text : List ℕ) : Type 0 where
  pub stands : StandsFor card (history_of start fs)
  pub answered : AreAnswered start fs text
  pub later : IsLater s t
  pub chip : IfTold s (ChipLed start fs s t)

-- The same from whatever history the first card stands for.
abbrev pub LedTo : Option (Option FullCard) → Seen → Option (Option FullCard) → Seen → List (List ℕ) → List ℕ → Type 0
LedTo card s card' t fs text = (start : Option History) → StandsFor card start → IsLed start card' s t fs text

-- The chip behind these frames, and behind a further one of which a call failed.
pub record ChipBroke (start : Option History) (fs : List (List ℕ)) (f : List ℕ) (s t : Seen) : Type 0 where
  pub calls : Went (10000 * (length fs + 1)) false s.tally t.tally
  pub holds : (first : ℕ) → Rests s first start (opened start) → HoldsFrom t first (history_of start fs) (tried (unit_in (history_of start fs) f) (marks_of start fs))

-- The chip behind these frames, where a further one may have been read.
pub record ChipRests (start : Option History) (fs : List (List ℕ)) (read : ℕ) (s t : Seen) : Type 0 where
  pub calls : Went (10000 * read) true s.tally t.tally
  pub rests : (first : ℕ) → Rests s first start (opened start) → Rests t first (history_of start fs) (marks_of start fs)

-- The chip of a card that stopped at a further frame: where memory was wanting, that frame's unit may stand.
abbrev pub ChipStopped : Option History → List (List ℕ) → List ℕ → PartStop → Seen → Seen → Type 0
ChipStopped start fs f ChipFault s t = ChipBroke start fs f s t
ChipStopped start fs f Malformed s t = ⊥
ChipStopped start fs f Unrecognised s t = ChipRests start fs (length fs + 1) s t
ChipStopped start fs f NoMemory s t = ChipRests start fs (length fs + 1) s t ⊎ ChipRests start (fs ++ f ∷ []) (length fs + 1) s t

-- From this history on these frames, with this text, led to a card that stopped at a further one.
pub record IsStopped (start : Option History) (s t : Seen) (fs : List (List ℕ)) (text f : List ℕ) (stop : PartStop) : Type 0 where
  pub answered : AreAnswered start fs text
  pub reason : HasNoReply (history_of start fs) f stop
  pub later : IsLater s t
  pub cause : stop ≡ ChipFault → Rose s.faults t.faults
  pub chip : IfTold s (ChipStopped start fs f stop s t)

abbrev pub StoppedAt : Option (Option FullCard) → Seen → Seen → List (List ℕ) → List ℕ → List ℕ → PartStop → Type 0
StoppedAt card s t fs text f stop = (start : Option History) → StandsFor card start → IsStopped start s t fs text f stop
