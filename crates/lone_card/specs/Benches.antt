-- What frames make of the chip of a card.
use Rattle.std.specs.Prelude.{◌≡◌, ℕ, ◌+◌, true, false, List, [], ◌∷◌, Option, Some, None, Result, Ok, Err}
use Rattle.chip_port.specs.Seen.{Seen}
use Rattle.chip_port.specs.Rules.{IfTold}
use Rattle.chip_port.specs.Runs.{Went}
use Rattle.small_card.specs.Cards.{FullCard}
use Rattle.small_card.specs.Units.{CardUnit}
use Rattle.small_card.specs.Histories.{History, full_of}
use Rattle.small_card.specs.declared.types.Answer.{Answer}
use Rattle.small_card.specs.declared.types.Command.{Command}
use Rattle.card_store.specs.Standing.{IsSettled}
use Rattle.card_store.specs.Holding.{Mark, Holds, standing, tried}
use Rattle.euicc_core.specs.Steps.{IsLitOn}
use Rattle.run_loop.specs.declared.halt.PartStop.{PartStop}
use Rattle.run_loop.specs.declared.halt.PartStop.TheVariants.{ChipFault, Malformed, Unrecognised, NoMemory}
use Rattle.lone_card.specs.Cards.{started, after_frame}
use Rattle.lone_card.specs.Marks.{unit_in, opened, marks_after}
use Rattle.lone_card.specs.Answering.{StandsFor}

-- The chip holds the history with its marks, of which the oldest is that of the answer with this number; where there
-- is no card yet, the answer with this number is still to come.
abbrev pub HoldsFrom : Seen → ℕ → Option History → List Mark → Type 0
HoldsFrom s first (Some h) marks = Holds s first h marks
HoldsFrom s first None marks = s.marks.answers + 1 ≡ first

-- The chip is settled on the card of the history, if there is one.
abbrev pub IsSettledOn : Option History → Seen → Type 0
IsSettledOn (Some h) s = IsSettled (full_of h) s
IsSettledOn None s = Unit {0}

-- Between two frames.
pub record Rests (s : Seen) (first : ℕ) (o : Option History) (marks : List Mark) : Type 0 where
  pub holds : HoldsFrom s first o marks
  pub settled : IsSettledOn o s

-- The last mark is that of the history as it stands, with nothing in progress.
abbrev pub IsTopped : Option History → List Mark → Type 0
IsTopped (Some h) marks = (older : List Mark) × (marks ≡ standing h ∷ older)
IsTopped None marks = marks ≡ []

-- The chip rests again, with this history and these marks.
pub record GoesOn (o o' : Option History) (then : List Mark → List Mark) (s t : Seen) : Type 0 where
  pub calls : Went 10000 true s.tally t.tally
  pub rests : (first : ℕ) (marks : List Mark) → IsTopped o marks → Rests s first o marks → Rests t first o' (then marks)

-- A call failed while this unit, or none, was in progress.
pub record BreaksOff (o : Option History) (u : Option CardUnit) (s t : Seen) : Type 0 where
  pub calls : Went 10000 false s.tally t.tally
  pub holds : (first : ℕ) (marks : List Mark) → IsTopped o marks → Rests s first o marks → HoldsFrom t first o (tried u marks)

-- What a frame makes of the chip, by how it was answered or why not.
abbrev pub Works : Option History → List ℕ → Result Answer PartStop → Seen → Seen → Type 0
Works o f (Ok a) s t = GoesOn o (after_frame o f) (λ marks. marks_after o marks f) s t
Works o f (Err ChipFault) s t = BreaksOff o (unit_in o f) s t
Works o f (Err Malformed) s t = ⊥
Works o f (Err Unrecognised) s t = GoesOn o o (λ marks. marks) s t
Works o f (Err NoMemory) s t = GoesOn o o (λ marks. marks) s t

-- What a first command makes of the chip.
abbrev pub Makes : Option Command → Result (Option FullCard) PartStop → Seen → Seen → Type 0
Makes c (Ok held) s t = GoesOn None (started c) (λ marks. opened (started c)) s t
Makes c (Err ChipFault) s t = BreaksOff None None s t
Makes c (Err Malformed) s t = ⊥
Makes c (Err Unrecognised) s t = GoesOn None None (λ marks. marks) s t
Makes c (Err NoMemory) s t = GoesOn None None (λ marks. marks) s t

-- The chip is settled on a lit card.
abbrev pub IsLitPart : Option (Option FullCard) → Seen → Type 0
IsLitPart (Some held) s = IsLitOn held s
IsLitPart None s = Unit {0}

-- The card can answer a frame: it isn't dark, and its chip is settled on it.
pub record IsReady (card : Option (Option FullCard)) (s : Seen) : Type 0 where
  pub there : (o : Option History) × StandsFor card o
  pub settled : IfTold s (IsLitPart card s)
