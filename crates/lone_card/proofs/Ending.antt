-- Inputs that are answered to their end, and inputs that stop, over a card.
use Rattle.std.proofs.Common.{◌≡◌, ◌⊎◌, ◌∙◌, ap, sym, subst, refl, inl, inr, ℕ, ◌<◌, ◌≤◌, List, [], ◌∷◌, ◌++◌, length, true, Option, Some, None, Result, Ok, Err, arith}
use Rattle.std.specs.List.{AllByRecursion}
use Rattle.iot_bytes.specs.Causes.{Rose}
use Rattle.chip_port.specs.Seen.{Seen}
use Rattle.small_card.specs.Histories.{History}
use Rattle.run_loop.specs.declared.halt.PartStop.{PartStop}
use Rattle.run_loop.specs.declared.halt.PartStop.TheVariants as answering
use Rattle.run_loop.specs.declared.halt.ReadStop.TheVariants as reading
use Rattle.run_loop.specs.declared.halt.SendStop.{SendStop}
use Rattle.run_loop.specs.declared.halt.SendStop.TheVariants as sending
use Rattle.run_loop.specs.declared.halt.Halt.{Halt}
use Rattle.run_loop.specs.declared.halt.Halt.TheVariants.{Reading, Answering, Sending}
use Rattle.run_loop.specs.declared.halt.RunEnd.{RunEnd}
use Rattle.run_loop.specs.declared.reading.TheConstants.{MOST_FRAMES}
use Rattle.run_loop.specs.Breaks.{IsUnfit}
use Rattle.run_loop.specs.Edges.{Edge, HasCauses}
use Rattle.run_loop.specs.Frames.{framed, IsShort}
use Rattle.iot_bytes.specs.Frames.{frame}
use Rattle.es10_codec.specs.Spelling.{stopped}
use Rattle.small_card.specs.Cards.{FullCard}
use Rattle.card_store.specs.Standing.{Stands}
use Rattle.run_loop.specs.Sends.{Closes}
use Rattle.run_loop.specs.Status.{part_status, has_record, exit_status}
use Rattle.run_loop.proofs.Breaking.{IsForm}
use Rattle.run_loop.proofs.Mapping.{status_two, status_three}
use Rattle.run_loop.proofs.Stopping.{HasEnded, has_ended, complete as answered_whole, stops_torn, stops_limit, stops_unfit}
use Rattle.lone_card.specs.Cards.{reply_to, history_of, Begins}
use Rattle.lone_card.specs.Runs.{IsStart, AreKept, StopsAt, NeverOpened, HasServed, HasFaults, Ran, Served}
use Rattle.lone_card.specs.Ends.{CanBegin, AreHandled, IsNoStart, StopsWith}
use Rattle.lone_card.proofs.Histories.{no_reply_first, later_some, some_reply}

-- these frames are within the limits, and there is a card to answer them from this history on
record Handled (start : Option History) (fs : List (List ℕ)) : Type 0 where
  few : length fs ≤ MOST_FRAMES
  short : AllByRecursion IsShort fs
  begins : Begins start fs

-- there is no card, no frame was handled, and this one doesn't make one
record Unfit (start : Option History) (fs : List (List ℕ)) (f : List ℕ) : Type 0 where
  none : start ≡ None
  first : fs ≡ []
  unfit : reply_to None f ≡ None

form : (start : Option History) → IsForm (Handled start) (Unfit start)
form start = record {
  few = λ fs h. h.few;
  short = λ fs h. h.short;
  below = λ fs f u. omega (arith, ap length u.first);
  fits = λ fs f ms h u.
      let all : fs ++ f ∷ ms ≡ f ∷ ms = ap (λ (g : List (List ℕ)). g ++ f ∷ ms) u.first in
      let dark : Begins None (fs ++ f ∷ ms) = subst (λ (o : Option History). Begins o (fs ++ f ∷ ms)) u.none h.begins in
      let first : Begins None (f ∷ ms) = rw all at dark in
      first u.unfit;
}

no_reply : (start : Option History) (fs : List (List ℕ)) (f : List ℕ) → Begins start fs → reply_to (history_of start fs) f ≡ None → Unfit start fs f
no_reply None fs f begins none = let (empty, unfit) = no_reply_first fs f begins none in record { none = refl; first = empty; unfit = unfit }
no_reply (Some h) fs f begins none = let (later, is) = later_some h fs in absurd (some_reply (history_of (Some h) fs) later f is none)

unfit : (start : Option History) (s t : Seen) → (Rose s.faults t.faults → ⊥) → (fs : List (List ℕ)) (text f : List ℕ) (stop : PartStop) → StopsAt start s t fs text f stop → length fs < MOST_FRAMES → AllByRecursion IsShort fs
    → (part_status stop ≡ 6) ⊎ ((part_status stop ≡ 8) × Handled start fs × Unfit start fs f)
unfit start s t calm fs text f answering.ChipFault r few short = absurd (calm (r.cause refl))
unfit start s t calm fs text f answering.Malformed r few short = absurd r.reason
unfit start s t calm fs text f answering.NoMemory r few short = inl refl
unfit start s t calm fs text f answering.Unrecognised r few short =
    inr (refl, record { few = omega (arith, few); short = short; begins = r.answered.begins }, no_reply start fs f r.answered.begins r.reason)

-- how a run ended where no call failed
ended : (status : ℕ) (old new : Edge) (s t : Seen) (end : RunEnd) (input : List ℕ) → status ≡ exit_status end.halt end.closing → (h : HasServed old new s t end) → old.rest ≡ Some input
    → (Rose old.read_faults new.read_faults → ⊥) → (Rose old.write_faults new.write_faults → ⊥) → (Rose s.faults t.faults → ⊥) → (status ≡ 6) ⊎ HasEnded 8 (Handled h.start) (Unfit h.start) status input
ended status old new s t end input says h told no_read no_write calm =
    has_ended 8 (Handled h.start) (Unfit h.start) (AreKept h.start s t) (StopsAt h.start s t) (λ fs text a few short. record { few = few; short = short; begins = a.answered.begins }) (unfit h.start s t calm) status old new end input says h.ended told no_read no_write

begins_from : (s : Seen) (start : Option History) (fs : List (List ℕ)) → IsStart s start → CanBegin s fs → Begins start fs
begins_from s (Some h) fs at can = tt
begins_from s None fs at (inl first) = first
begins_from s None fs at (inr there) = absurd (at there.0 there.1.0 there.1.1)

handled_from : (s : Seen) (start : Option History) (fs : List (List ℕ)) → IsStart s start → AreHandled s fs → Handled start fs
handled_from s start fs at h = record { few = h.few; short = h.short; begins = begins_from s start fs at h.begins }

no_start : (s : Seen) (start : Option History) → IsStart s start → s.told ≡ true → ((card : FullCard) → Stands card s.reads → ⊥) → start ≡ None
no_start s None at told none = refl
no_start s (Some h) at told none = absurd (none h.start (at.2 told))

unfit_from : (s : Seen) (start : Option History) (fs : List (List ℕ)) (tail : List ℕ) → IsStart s start → IsUnfit (IsNoStart s) fs tail → IsUnfit (Unfit start) fs tail
unfit_from s start fs tail at u = record {
  found = u.found;
  unfit = record { none = no_start s start at u.unfit.told u.unfit.blank; first = u.unfit.none; unfit = u.unfit.unfit };
}

-- a card that couldn't be opened for want of memory
closed_six : (closing : Result (Unit {0}) SendStop) → closing ≡ Ok tt → exit_status (Answering answering.NoMemory) closing ≡ 6
closed_six closing is = ap (exit_status (Answering answering.NoMemory)) is

six : (old new : Edge) (s t : Seen) (end : RunEnd) → NeverOpened old new s t end → Ran end old new s t → (Rose s.faults t.faults → ⊥) → exit_status end.halt end.closing ≡ 6
six old new s t end n ran calm = elim n.reason [
  | inl fault ↦ absurd (calm (ran.chip.cause (n.ended.halts ∙ ap (λ (p : PartStop). Answering p) fault)))
  | inr none ↦
      let halt : end.halt ≡ Answering answering.NoMemory = n.ended.halts ∙ ap (λ (p : PartStop). Answering p) none in
      ap (λ (h : Halt). exit_status h end.closing) halt ∙ closed_six end.closing (silent n.stop none n.ended.sent)
]
  where
    silent : (stop : PartStop) → stop ≡ answering.NoMemory → Closes (has_record (Answering stop)) old.sent new.sent (frame (stopped (part_status stop) 0)) end.closing → end.closing ≡ Ok tt
    silent answering.NoMemory is c = c.0
    silent answering.ChipFault is c = absurd cc
    silent answering.Malformed is c = absurd cc
    silent answering.Unrecognised is c = absurd cc

-- whole frames that there is a card for are answered to their end
pub complete : (status : ℕ) (old new : Edge) (s t : Seen) (input : List ℕ) (fs : List (List ℕ)) → Served status old new s t → old.rest ≡ Some input → input ≡ framed fs → AreHandled s fs
    → (Rose old.read_faults new.read_faults → ⊥) → (Rose old.write_faults new.write_faults → ⊥) → (Rose s.faults t.faults → ⊥) → (status ≡ 0) ⊎ (status ≡ 6)
complete status old new s t input fs served told is handled no_read no_write calm = elim served.ran.went [
  | inl never ↦ inr (served.says ∙ six old new s t served.end never served.ran calm)
  | inr h ↦
      answered_whole 8 (Handled h.start) (Unfit h.start) (form h.start) status input fs (ended status old new s t served.end input served.says h told no_read no_write calm) is (handled_from s h.start fs h.begins handled)
]

-- what stops behind them ends the run with its status
pub stops : (status : ℕ) (old new : Edge) (s t : Seen) (input : List ℕ) (fs : List (List ℕ)) (tail : List ℕ) → Served status old new s t → old.rest ≡ Some input → input ≡ framed fs ++ tail → AreHandled s fs
    → (Rose old.read_faults new.read_faults → ⊥) → (Rose old.write_faults new.write_faults → ⊥) → (Rose s.faults t.faults → ⊥) → StopsWith s fs tail status
stops status old new s t input fs tail served told is handled no_read no_write calm = elim served.ran.went [
  | inl never ↦
      let wanting = served.says ∙ six old new s t served.end never served.ran calm in
      record { torn = λ at. inr wanting; limit = λ at. inr wanting; unfit = λ at. inr wanting }
  | inr h ↦
      let e = ended status old new s t served.end input served.says h told no_read no_write calm in
      let handled' = handled_from s h.start fs h.begins handled in
      record {
        torn = stops_torn 8 (Handled h.start) (Unfit h.start) (form h.start) status input fs tail e is handled';
        limit = stops_limit 8 (Handled h.start) (Unfit h.start) (form h.start) status input fs tail e is handled';
        unfit = λ at. stops_unfit 8 (Handled h.start) (Unfit h.start) (form h.start) status input fs tail e is handled' (unfit_from s h.start fs tail h.begins at);
      }
]

-- a status of a fault tells the fault
pub status_four : (halt : Halt) (closing : Result (Unit {0}) SendStop) → exit_status halt closing ≡ 4 → halt ≡ Answering answering.ChipFault
status_four (Reading reading.End) (Ok done) e = absurd cc
status_four (Reading reading.Fault) (Ok done) e = absurd cc
status_four (Reading reading.Torn) (Ok done) e = absurd cc
status_four (Reading reading.Limit) (Ok done) e = absurd cc
status_four (Reading reading.NoMemory) (Ok done) e = absurd cc
status_four (Answering answering.ChipFault) (Ok done) e = refl
status_four (Answering answering.Malformed) (Ok done) e = absurd cc
status_four (Answering answering.Unrecognised) (Ok done) e = absurd cc
status_four (Answering answering.NoMemory) (Ok done) e = absurd cc
status_four Sending (Ok done) e = absurd cc
status_four halt (Err sending.Fault) e = absurd cc
status_four halt (Err sending.NoMemory) e = absurd cc

pub has_faults : (status : ℕ) (old new : Edge) (s t : Seen) → Served status old new s t → HasFaults s t (status ≡ 4)
has_faults status old new s t served = record {
  later = served.ran.chip.later;
  cause = λ four. served.ran.chip.cause (status_four served.end.halt served.end.closing (sym served.says ∙ four));
}

pub has_causes : (status : ℕ) (old new : Edge) (s t : Seen) → Served status old new s t → HasCauses old new (status ≡ 2) (status ≡ 3)
has_causes status old new s t served = elim served.ran.went [
  | inl never ↦
      let c = never.ended.causes in
      record {
        read_later = c.read_later;
        write_later = c.write_later;
        read = λ two. let same : Answering never.stop ≡ Reading reading.Fault = sym never.ended.halts ∙ status_two served.end.halt served.end.closing (sym served.says ∙ two) in absurd cc;
        write = λ three. elim (status_three served.end.halt served.end.closing (sym served.says ∙ three)) [
          | inl sending ↦ let same : Answering never.stop ≡ Sending = sym never.ended.halts ∙ sending in absurd cc
          | inr fault ↦ c.write fault
        ];
      }
  | inr h ↦
      let c = h.ended.causes in
      record {
        read_later = c.read_later;
        write_later = c.write_later;
        read = λ two. c.read (status_two served.end.halt served.end.closing (sym served.says ∙ two));
        write = λ three. c.write (status_three served.end.halt served.end.closing (sym served.says ∙ three));
      }
]
