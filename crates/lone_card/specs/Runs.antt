-- A run of a card over its chip.
use Rattle.std.specs.Prelude.{◌≡◌, ◌⊎◌, ℕ, ◌+◌, ◌*◌, true, false, List, [], ◌∷◌, ◌++◌, length, Option, Some, None, Result, Ok, Err}
use Rattle.iot_bytes.specs.Causes.{Rose}
use Rattle.chip_port.specs.Seen.{Seen}
use Rattle.chip_port.specs.Rules.{IfTold}
use Rattle.chip_port.specs.Runs.{Went}
use Rattle.small_card.specs.Cards.{FullCard}
use Rattle.small_card.specs.Histories.{History}
use Rattle.small_card.specs.Legal.{IsLegal}
use Rattle.card_store.specs.Standing.{Stands}
use Rattle.card_store.specs.Loading.{IsKept}
use Rattle.card_store.specs.Holding.{Mark, tried}
use Rattle.card_store.specs.Looking.{HasCauseOf}
use Rattle.euicc_core.specs.Openings.{IsUnopened as IsShut}
use Rattle.run_loop.specs.declared.halt.PartStop.{PartStop}
use Rattle.run_loop.specs.declared.halt.PartStop.TheVariants.{ChipFault, Malformed, Unrecognised, NoMemory}
use Rattle.run_loop.specs.declared.halt.Halt.TheVariants.{Answering}
use Rattle.run_loop.specs.declared.halt.RunEnd.{RunEnd}
use Rattle.run_loop.specs.Edges.{Edge}
use Rattle.run_loop.specs.Runs.{Ended, IsUnopened}
use Rattle.run_loop.specs.Status.{exit_status}
use Rattle.lone_card.specs.Cards.{history_of}
use Rattle.lone_card.specs.Marks.{unit_in, opened, marks_of}
use Rattle.lone_card.specs.Answering.{StandsFor, AreAnswered, HasNoReply}
use Rattle.lone_card.specs.Benches.{HoldsFrom, Rests, IsReady}
use Rattle.lone_card.specs.Walks.{IsLater}
use Rattle.lone_card.specs.declared.card.CardPart.{CardPart}

-- The history at entry: the card that the content stands for, with no unit yet, or none where it stands for none.
abbrev pub IsStart : Seen → Option History → Type 0
IsStart s (Some h) = (h.units ≡ []) × IsLegal h × IfTold s (Stands h.start s.reads)
IsStart s None = IfTold s ((card : FullCard) → Stands card s.reads → ⊥)

-- The chip holds the history with its marks, of which the oldest is that of the first answer since entry, and is
-- settled on its card. At most 10,000 calls were made for the opening and for each frame that was read; none of them
-- failed, and none changed the plans.
pub record IsLit (s t : Seen) (read : ℕ) (o : Option History) (marks : List Mark) : Type 0 where
  pub rests : Rests t (s.marks.answers + 1) o marks
  pub calls : Went (10000 * (1 + read)) true s.tally t.tally

-- The same but for the settling: the last call failed while a frame was handled, whose unit is the attempt of the
-- last mark.
pub record IsCutOff (s t : Seen) (read : ℕ) (o : Option History) (marks : List Mark) : Type 0 where
  pub holds : HoldsFrom t (s.marks.answers + 1) o marks
  pub calls : Went (10000 * (1 + read)) false s.tally t.tally

-- These frames were answered, with this text, and the chip holds them.
pub record AreKept (start : Option History) (s t : Seen) (fs : List (List ℕ)) (text : List ℕ) : Type 0 where
  pub answered : AreAnswered start fs text
  pub chip : IfTold s (IsLit s t (length fs) (history_of start fs) (marks_of start fs))

-- The chip of a run that stopped at a further frame: a call failed, no card is there, or memory was wanting; the
-- chip then holds the frames before it or, where there was no memory for the octets of its answer, that frame too.
abbrev pub StopsOver : Option History → List (List ℕ) → List ℕ → PartStop → Seen → Seen → Type 0
StopsOver start fs f ChipFault s t = IsCutOff s t (length fs + 1) (history_of start fs) (tried (unit_in (history_of start fs) f) (marks_of start fs))
StopsOver start fs f Malformed s t = ⊥
StopsOver start fs f Unrecognised s t = IsLit s t (length fs + 1) (history_of start fs) (marks_of start fs)
StopsOver start fs f NoMemory s t =
    IsLit s t (length fs + 1) (history_of start fs) (marks_of start fs)
    ⊎ IsLit s t (length fs + 1) (history_of start (fs ++ f ∷ [])) (marks_of start (fs ++ f ∷ []))

-- These frames were answered, with this text, and the run stopped at a further one.
pub record StopsAt (start : Option History) (s t : Seen) (fs : List (List ℕ)) (text f : List ℕ) (stop : PartStop) : Type 0 where
  pub answered : AreAnswered start fs text
  pub reason : HasNoReply (history_of start fs) f stop
  pub cause : stop ≡ ChipFault → Rose s.faults t.faults
  pub chip : IfTold s (StopsOver start fs f stop s t)

-- The chip of a card that couldn't be opened: no answer was given, and whatever a cut may leave was there at entry or
-- stands for the card that the content stood for.
abbrev pub StaysShut : PartStop → Seen → Seen → Type 0
StaysShut ChipFault s t = IsShut false s t
StaysShut Malformed s t = ⊥
StaysShut Unrecognised s t = ⊥
StaysShut NoMemory s t = IsShut true s t × IsKept s t

-- The card couldn't be opened: a call of the chip failed, or memory was wanting. No frame was read.
pub record NeverOpened (old new : Edge) (s t : Seen) (end : RunEnd) : Type 0 where
  pub stop : PartStop
  pub reason : (stop ≡ ChipFault) ⊎ (stop ≡ NoMemory)
  pub ended : IsUnopened stop old new end
  pub chip : IfTold s (StaysShut stop s t)

-- Frames were answered from the history at entry on.
pub record HasServed (old new : Edge) (s t : Seen) (end : RunEnd) : Type 0 where
  pub start : Option History
  pub begins : IsStart s start
  pub ended : Ended (AreKept start s t) (StopsAt start s t) old new end

-- Whether the chip tells its content stays, its count of faults never falls, and this comes only where it rose.
pub record HasFaults (s t : Seen) (failed : Type 0) : Type 0 where
  pub later : IsLater s t
  pub cause : failed → Rose s.faults t.faults

-- A run of the card, by how it ended. A fault of the chip comes only where its count of faults rose.
pub record Ran (end : RunEnd) (old new : Edge) (s t : Seen) : Type 0 where
  pub chip : HasFaults s t (end.halt ≡ Answering ChipFault)
  pub went : NeverOpened old new s t end ⊎ HasServed old new s t end

-- The same by its status.
pub record Served (status : ℕ) (old new : Edge) (s t : Seen) : Type 0 where
  pub end : RunEnd
  pub says : status ≡ exit_status end.halt end.closing
  pub ran : Ran end old new s t

-- The chip of a card that was opened, or of none that could be: it rests, and at most 10,000 calls were made, of which
-- none failed.
pub record IsOpen (s t : Seen) (o : Option History) : Type 0 where
  pub calls : Went 10000 true s.tally t.tally
  pub rests : Rests t (s.marks.answers + 1) o (opened o)

-- The card that stood on the chip at entry, or none, and whether it can answer frames.
pub record HasOpened (card : Option (Option FullCard)) (s t : Seen) : Type 0 where
  pub start : Option History
  pub begins : IsStart s start
  pub stands : StandsFor card start
  pub ready : IsReady card t
  pub chip : IfTold s (IsOpen s t start)

-- How an opening ends.
abbrev pub OpensTo : Result CardPart PartStop → Seen → Seen → Type 0
OpensTo (Ok part) s t = HasOpened part.card s t
OpensTo (Err stop) s t = ((stop ≡ ChipFault) ⊎ (stop ≡ NoMemory)) × IfTold s (StaysShut stop s t)

pub record Opens (result : Result CardPart PartStop) (s t : Seen) : Type 0 where
  pub chip : HasCauseOf ChipFault s t result
  pub to : OpensTo result s t
