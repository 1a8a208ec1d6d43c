-- A run of the card, from its opening to its end.
use Rattle.std.proofs.Common.{◌≡◌, ◌⊎◌, ◌∙◌, ap, sym, subst, refl, inl, inr, ℕ, ◌+◌, ◌*◌, true, false, Bool, List, [], ◌∷◌, ◌++◌, length, Option, Some, None, Ok, Err, arith}
use Rattle.std.specs.Prelude.{MatchOption}
use Rattle.chip_port.specs.Seen.{Seen, Tally}
use Rattle.chip_port.specs.Rules.{IfTold, Sound}
use Rattle.chip_port.specs.Runs.{Went}
use Rattle.chip_port.proofs.Runs.{went_then}
use Rattle.small_card.specs.Cards.{FullCard}
use Rattle.small_card.specs.Valid.{IsValid}
use Rattle.small_card.specs.Histories.{History, full_of}
use Rattle.small_card.proofs.Validity.{full_start, alone_legal}
use Rattle.card_store.specs.Looking.{HasCauseOf}
use Rattle.card_store.specs.Standing.{Stands}
use Rattle.euicc_core.specs.Answers.{Answers}
use Rattle.euicc_core.specs.Steps.{IsLitOn}
use Rattle.euicc_core.specs.Openings.{IsOpened}
use Rattle.run_loop.specs.declared.halt.PartStop.{PartStop}
use Rattle.run_loop.specs.declared.halt.PartStop.TheVariants.{ChipFault, Malformed, Unrecognised, NoMemory}
use Rattle.run_loop.specs.declared.halt.Halt.{Halt}
use Rattle.run_loop.specs.declared.halt.Halt.TheVariants.{Reading, Answering, Sending}
use Rattle.run_loop.specs.declared.halt.RunEnd.{RunEnd}
use Rattle.run_loop.specs.Edges.{Edge}
use Rattle.run_loop.specs.Runs.{Ended, Reason, IsUnopened}
use Rattle.run_loop.proofs.Mapping.{ended_map}
use Rattle.lone_card.specs.Cards.{history_of}
use Rattle.lone_card.specs.Marks.{opened, marks_from}
use Rattle.lone_card.specs.Answering.{StandsFor}
use Rattle.lone_card.specs.Walks.{IsLater, IsLed, LedTo, ChipRests, ChipStopped, IsStopped, StoppedAt}
use Rattle.lone_card.specs.Runs.{IsLit, AreKept, StopsOver, StopsAt, StaysShut, HasFaults, Ran, IsOpen, HasOpened, Opens}
use Rattle.lone_card.specs.declared.card.CardPart.{CardPart}
use Rattle.lone_card.proofs.Chips.{first_rests}

-- the calls of an opening and of what follows
calls_since : (n : ℕ) (ok : Bool) (a b c : Tally) → Went 10000 true a b → Went (10000 * n) ok b c → Went (10000 * (1 + n)) ok a c
calls_since n ok a b c was now =
    let same : 10000 + 10000 * n ≡ 10000 * (1 + n) = omega arith in
    subst (λ (k : ℕ). Went k ok a c) same (went_then 10000 (10000 * n) ok a b c was now)

led_kept : (start : Option History) (card : Option (Option FullCard)) (s t u : Seen) (fs : List (List ℕ)) (text : List ℕ) → IsLater s t → IfTold s (IsOpen s t start) → IsLed start card t u fs text → AreKept start s u fs text
led_kept start card s t u fs text later opening led = record {
  answered = led.answered;
  chip = λ told.
      let was = opening told in
      let now = led.chip (later.told ∙ told) in
      record { rests = now.rests (s.marks.answers + 1) was.rests; calls = calls_since (length fs) true s.tally t.tally u.tally was.calls now.calls };
}

rests_lit : (start : Option History) (fs : List (List ℕ)) (read : ℕ) (s t u : Seen) → IsOpen s t start → ChipRests start fs read t u → IsLit s u read (history_of start fs) (marks_from start (opened start) fs)
rests_lit start fs read s t u was now = record { rests = now.rests (s.marks.answers + 1) was.rests; calls = calls_since read true s.tally t.tally u.tally was.calls now.calls }

stops_over : (start : Option History) (fs : List (List ℕ)) (f : List ℕ) (stop : PartStop) (s t u : Seen) → IsOpen s t start → ChipStopped start fs f stop t u → StopsOver start fs f stop s u
stops_over start fs f ChipFault s t u was now = record { holds = now.holds (s.marks.answers + 1) was.rests; calls = calls_since (length fs + 1) false s.tally t.tally u.tally was.calls now.calls }
stops_over start fs f Malformed s t u was now = now
stops_over start fs f Unrecognised s t u was now = rests_lit start fs (length fs + 1) s t u was now
stops_over start fs f NoMemory s t u was (inl now) = inl (rests_lit start fs (length fs + 1) s t u was now)
stops_over start fs f NoMemory s t u was (inr now) = inr (rests_lit start (fs ++ f ∷ []) (length fs + 1) s t u was now)

stopped_at : (start : Option History) (s t u : Seen) (fs : List (List ℕ)) (text f : List ℕ) (stop : PartStop) → IsLater s t → IfTold s (IsOpen s t start) → IsStopped start t u fs text f stop → StopsAt start s u fs text f stop
stopped_at start s t u fs text f stop later opening st = record {
  answered = st.answered;
  reason = st.reason;
  cause = λ is. omega (arith, later.monotone, st.cause is);
  chip = λ told. stops_over start fs f stop s t u (opening told) (st.chip (later.told ∙ told));
}

-- the chip of a run that ended
faults_since : (start : Option History) (card card' : Option (Option FullCard)) (t u : Seen) (rest0 rest : Option (List ℕ)) (fs : List (List ℕ)) (text : List ℕ) (halt : Halt) → StandsFor card start
    → Reason (LedTo card t card' u) (StoppedAt card t u) rest0 rest fs text halt → HasFaults t u (halt ≡ Answering ChipFault)
faults_since start card card' t u rest0 rest fs text (Reading why) stands r = record { later = (r.0 start stands).later; cause = λ is. absurd cc }
faults_since start card card' t u rest0 rest fs text (Answering why) stands r =
    let st = r.1 start stands in
    record { later = st.later; cause = λ is. let same : why ≡ ChipFault = cc in st.cause same }
faults_since start card card' t u rest0 rest fs text Sending stands r = record { later = (r.0 start stands).later; cause = λ is. absurd cc }

faults_then : (s t u : Seen) (failed : Type 0) → IsLater s t → HasFaults t u failed → HasFaults s u failed
faults_then s t u failed l h = record {
  later = record { told = h.later.told ∙ l.told; monotone = omega (arith, l.monotone, h.later.monotone) };
  cause = λ at. omega (arith, l.monotone, h.cause at);
}

-- a run of a card that was opened
pub served : (card card' : Option (Option FullCard)) (s t u : Seen) (old new : Edge) (end : RunEnd) → IsLater s t → HasOpened card s t → Ended (LedTo card t card' u) (StoppedAt card t u) old new end → Ran end old new s u
served card card' s t u old new end later o e = record {
  chip = faults_then s t u (end.halt ≡ Answering ChipFault) later (faults_since o.start card card' t u old.rest new.rest e.frames e.text end.halt o.stands e.reason);
  went = inr (record {
    start = o.start;
    begins = o.begins;
    ended = ended_map (LedTo card t card' u) (AreKept o.start s u) (StoppedAt card t u) (StopsAt o.start s u) old new end
        (λ fs text led. led_kept o.start card' s t u fs text later o.chip (led o.start o.stands))
        (λ fs text f stop st. stopped_at o.start s t u fs text f stop later o.chip (st o.start o.stands)) e;
  });
}

-- a run of a card that couldn't be opened
pub unserved : {T : Type 0} (s t : Seen) (old new : Edge) (end : RunEnd) (stop : PartStop) → HasCauseOf {T = T} ChipFault s t (Err stop) → (stop ≡ ChipFault) ⊎ (stop ≡ NoMemory) → IfTold s (StaysShut stop s t) → IsUnopened stop old new end → Ran end old new s t
unserved s t old new end stop cause reason shut ended = record {
  chip = record {
    later = record { told = cause.told; monotone = cause.monotone };
    cause = λ at. let same : Answering stop ≡ Answering ChipFault = sym ended.halts ∙ at in let fault : stop ≡ ChipFault = cc in cause.cause (ap (λ (x : PartStop). Err x) fault);
  };
  went = inl (record { stop = stop; reason = reason; ended = ended; chip = shut });
}

-- the history of a card that was powered up
abbrev pub history_at : FullCard → History
history_at f = record { start = f; units = [] }

-- a card that was powered up
powered : (f : FullCard) (s t : Seen) → IfTold s (Sound 346624 s) → IfTold t (Sound 346624 t) → IsValid f → IfTold s (IsOpened (Some f) s t) → t.told ≡ s.told → IfTold t (IsLitOn (Some f) t) → HasOpened (Some (Some f)) s t
powered f s t before now valid opens told lit =
    let h = history_at f in
    let full = full_start f in
    record {
      start = Some h;
      begins = (refl, alone_legal f valid, λ is. stood f s t (opens is));
      stands = (ap (λ (g : FullCard). Some g) (sym full), alone_legal f valid);
      ready = record { there = (Some h, (ap (λ (g : FullCard). Some g) (sym full), alone_legal f valid)); settled = lit };
      chip = λ is. open_at f s t (before is) (now (told ∙ is)) (opens is);
    }
  where
    same_card : (f g : FullCard) → Some f ≡ Some g → g ≡ f
    same_card f g e = cc

    stood : (f : FullCard) (s t : Seen) → IsOpened (Some f) s t → Stands f s.reads
    stood f s t o = subst (λ (g : FullCard). Stands g s.reads) (same_card f o.card o.lit) o.stood

    open_at : (f : FullCard) (s t : Seen) → Sound 346624 s → Sound 346624 t → IsOpened (Some f) s t → IsOpen s t (Some (history_at f))
    open_at f s t before now o =
        let all : Answers (Stands o.card) (full_of (history_at f)) s t = subst (λ (g : FullCard). Answers (Stands o.card) g s t) (same_card f o.card o.lit ∙ sym (full_start f)) o.answered in
        record { calls = all.ended.went; rests = first_rests s t (Stands o.card) (history_at f) before now all }

pub opened_by : {E : Type 0} (failed : E) (held : Option FullCard) (part : CardPart) (s t : Seen) → IfTold s (Sound 346624 s) → IfTold t (Sound 346624 t) → part.card ≡ Some held → MatchOption held ⊥ IsValid → HasCauseOf {T = Option FullCard} failed s t (Ok held)
    → IfTold s (IsOpened held s t) → IfTold t (IsLitOn held t) → Opens (Ok part) s t
opened_by failed None part s t before now is valid cause opens lit = absurd valid
opened_by failed (Some f) part s t before now is valid cause opens lit = record {
  chip = record { told = cause.told; monotone = cause.monotone; cause = λ at. absurd cc };
  to = subst (λ (c : Option (Option FullCard)). HasOpened c s t) (sym is) (powered f s t before now valid opens cause.told lit);
}
