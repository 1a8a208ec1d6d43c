-- The turns of a run over lines, and how it ends.
use Rattle.std.proofs.Common.{◌≡◌, ◌≢◌, ℕ, ◌+◌, ◌<◌, ◌≤◌, true, List, [], ◌∷◌, ◌++◌, length, Option, Some, Result, Ok, Err, refl, sym, subst, ◌∙◌, length-append, arith}
use Rattle.iot_bytes.specs.Causes.{Rose}
use Rattle.run_loop.specs.Edges.{Edge, edge}
use Rattle.run_loop.specs.Sends.{HasSent, HasSentInto, SentLast, Closes, Closed}
use Rattle.run_loop.specs.declared.halt.SendStop.{SendStop}
use Rattle.run_loop.specs.declared.halt.SendStop.TheVariants as sending
use Rattle.run_loop.proofs.Causes.{last_causes, more_causes, no_causes}
use Rattle.run_loop.proofs.Going.{closed, cut_again, sent-into, sent-more, sent-none}
use Rattle.run_loop.specs.Parts.{Walk}
use Rattle.line_loop.specs.declared.reading.TheConstants.{MOST_LINES}
use Rattle.line_loop.specs.declared.halt.LineStop.{LineStop}
use Rattle.line_loop.specs.declared.halt.NoLine.{NoLine}
use Rattle.line_loop.specs.declared.halt.NoLine.TheVariants as reading
use Rattle.line_loop.specs.declared.halt.EndStop.{EndStop}
use Rattle.line_loop.specs.declared.halt.Halt.{Halt}
use Rattle.line_loop.specs.declared.halt.Halt.TheVariants.{Reading, Handling, Ending, Sending}
use Rattle.line_loop.specs.Lines.{IsTaken, NoLineAt}
use Rattle.line_loop.specs.Sends.{SentBehind, stop_line}
use Rattle.line_loop.specs.Status.{halt_status, has_stop_line, is_end}
use Rattle.line_loop.specs.Parts.{Stopping}
use Rattle.line_loop.specs.Parts as parts
use Rattle.line_loop.specs.Runs.{Progress, Halted, Concludes, IsNumbered, SentBefore, SentFor, Ended, line_behind}
use Rattle.line_loop.proofs.Going.{taken_more, taken_none}

pub at_end : (halt : Halt) → is_end halt ≡ true → halt ≡ Reading reading.End
at_end (Reading reading.End) is = refl
at_end (Reading reading.Fault) is = absurd cc
at_end (Reading reading.Limit) is = absurd cc
at_end (Reading reading.NoMemory) is = absurd cc
at_end (Handling stop) is = absurd cc
at_end (Ending stop) is = absurd cc
at_end Sending is = absurd cc

pub halted_at : (walk : Walk) (stops : Stopping) (old now : Edge) (number : ℕ) (halt other : Halt) → halt ≡ other → Halted walk stops old now number halt → Halted walk stops old now number other
halted_at walk stops old now number halt other same h = subst (λ (z : Halt). Halted walk stops old now number z) same h

-- no line was handled yet
pub at_first : (walk : Walk) (e : Edge) → walk [] [] → Progress walk e e 0
at_first walk e begins = record {
  lines = [];
  text = [];
  counted = refl;
  stands = begins;
  taken = taken_none e.rest;
  sent = sent-none e.sent;
  causes = no_causes e;
}

-- a line was handled, and its text was sent
pub handled : (walk next : Walk) (old before now : Edge) (count : ℕ) (l text : List ℕ) → Progress walk old before count
    → ((ls : List (List ℕ)) (t : List ℕ) → walk ls t → next (ls ++ l ∷ []) (t ++ text))
    → ((octets : List ℕ) → before.rest ≡ Some octets → (behind : List ℕ) × IsTaken l octets behind × (now.rest ≡ Some behind)) → HasSent before.sent now.sent text
    → before.read_faults ≤ now.read_faults → before.write_faults ≤ now.write_faults → Progress next old now (count + 1)
handled walk next old before now count l text p did taken sent read_later write_later = record {
  lines = p.lines ++ l ∷ [];
  text = p.text ++ text;
  counted = omega (arith, length-append p.lines (l ∷ []), p.counted);
  stands = did p.lines p.text p.stands;
  taken = taken_more old.rest before.rest now.rest p.lines l p.taken taken;
  sent = sent-more old.sent before.sent now.sent p.text text p.sent sent;
  causes = more_causes old before now p.causes read_later write_later (λ no. absurd no) (λ no. absurd no);
}

-- there is no further line
pub read_no_more : (walk : Walk) (stops : Stopping) (old before now : Edge) (count : ℕ) (stop : NoLine) → count ≤ MOST_LINES → Progress walk old before count
    → ((octets : List ℕ) → before.rest ≡ Some octets → NoLineAt count octets now.rest stop) → now.sent ≡ before.sent
    → before.read_faults ≤ now.read_faults → before.write_faults ≤ now.write_faults → (stop ≡ reading.Fault → Rose before.read_faults now.read_faults)
    → Halted walk stops old now (count + 1) (Reading stop)
read_no_more walk stops old before now count stop few p none same read_later write_later rose = record {
  lines = p.lines;
  text = p.text;
  few = omega (arith, few, p.counted);
  numbered = omega (arith, p.counted);
  unasked = λ end at. cc;
  reason = (
    p.stands,
    λ input is.
        let (tail, taken, at) = p.taken input is in
        (tail, taken, subst (λ (n : ℕ). NoLineAt n tail now.rest stop) (sym p.counted) (none tail at)),
  );
  sent = λ sent0 is. same ∙ p.sent sent0 is;
  causes = more_causes old before now p.causes read_later write_later (λ at. let fault : stop ≡ reading.Fault = cc in rose fault) (λ at. absurd cc);
}

-- the part stops at a line
pub handle_no_more : (walk next : Walk) (stops : Stopping) (old before now : Edge) (count : ℕ) (l : List ℕ) (stop : LineStop) → count < MOST_LINES → Progress walk old before count
    → ((ls : List (List ℕ)) (t : List ℕ) → walk ls t → stops ls t l stop)
    → ((octets : List ℕ) → before.rest ≡ Some octets → (behind : List ℕ) × IsTaken l octets behind × (now.rest ≡ Some behind)) → now.sent ≡ before.sent
    → before.read_faults ≤ now.read_faults → before.write_faults ≤ now.write_faults → Halted next stops old now (count + 1) (Handling stop)
handle_no_more walk next stops old before now count l stop few p did taken same read_later write_later = record {
  lines = p.lines;
  text = p.text;
  few = omega (arith, few, p.counted);
  numbered = omega (arith, p.counted);
  unasked = λ end at. cc;
  reason = (
    l,
    did p.lines p.text p.stands,
    omega (arith, few, p.counted),
    λ input is.
        let (tail, first, at) = p.taken input is in
        (tail, first, taken tail at),
  );
  sent = λ sent0 is. same ∙ p.sent sent0 is;
  causes = more_causes old before now p.causes read_later write_later (λ at. absurd cc) (λ at. absurd cc);
}

-- the text of a line wasn't sent whole
pub cut_short : (walk next : Walk) (stops : Stopping) (old before now : Edge) (count : ℕ) (l text : List ℕ) → count < MOST_LINES → Progress walk old before count
    → ((ls : List (List ℕ)) (t : List ℕ) → walk ls t → next (ls ++ l ∷ []) (t ++ text))
    → ((octets : List ℕ) → before.rest ≡ Some octets → (behind : List ℕ) × IsTaken l octets behind × (now.rest ≡ Some behind)) → HasSentInto before.sent now.sent [] text
    → before.read_faults ≤ now.read_faults → before.write_faults ≤ now.write_faults → Rose before.write_faults now.write_faults → Halted next stops old now (count + 1) Sending
cut_short walk next stops old before now count l text few p did taken sent read_later write_later rose = record {
  lines = p.lines ++ l ∷ [];
  text = p.text ++ text;
  few = omega (arith, few, length-append p.lines (l ∷ []), p.counted);
  numbered = omega (arith, length-append p.lines (l ∷ []), p.counted);
  unasked = λ end at. cc;
  reason = (did p.lines p.text p.stands, taken_more old.rest before.rest now.rest p.lines l p.taken taken);
  sent = (text, record { before = p.text; parts = refl; sent = sent-into old.sent before.sent now.sent p.text text p.sent sent });
  causes = more_causes old before now p.causes read_later write_later (λ at. absurd cc) (λ at. rose);
}

-- a closing text was sent behind a text, or not whole
sent_behind : (sent0 sent sent' : Option (List ℕ)) (text last : List ℕ) (closing : Result (Unit {0}) SendStop) → HasSent sent0 sent text → SentLast sent sent' last closing → SentBehind sent0 sent' text last closing
sent_behind sent0 sent sent' text last (Ok done) before did = sent-more sent0 sent sent' text last before did
sent_behind sent0 sent sent' text last (Err sending.Fault) before did = sent-into sent0 sent sent' text last before did
sent_behind sent0 sent sent' text last (Err sending.NoMemory) before did = did

-- the stop line was sent behind a text, or not whole
closed_at : (halt : Halt) (sent0 sent sent' : Option (List ℕ)) (text : List ℕ) (count number : ℕ) (closing : Result (Unit {0}) SendStop) → number ≡ count + 1 → HasSent sent0 sent text
    → Closes (has_stop_line halt) sent sent' (stop_line (halt_status halt) number) closing → Closed (has_stop_line halt) sent0 sent' text (line_behind halt count) closing
closed_at halt sent0 sent sent' text count number closing numbered before did =
    closed (has_stop_line halt) sent0 sent sent' text (line_behind halt count) closing before (subst (λ (n : ℕ). Closes (has_stop_line halt) sent sent' (stop_line (halt_status halt) n) closing) numbered did)

sent_for : (halt : Halt) (sent0 sent sent' : Option (List ℕ)) (count : ℕ) (text : List ℕ) (number : ℕ) (closing : Result (Unit {0}) SendStop) → halt ≢ Reading reading.End → IsNumbered number count halt → SentBefore sent0 sent text halt
    → Closes (has_stop_line halt) sent sent' (stop_line (halt_status halt) number) closing → SentFor sent0 sent' count text [] halt closing
sent_for (Reading reading.End) sent0 sent sent' count text number closing not_end numbered before did = absurd (not_end refl)
sent_for (Reading reading.Fault) sent0 sent sent' count text number closing not_end numbered before did = closed_at (Reading reading.Fault) sent0 sent sent' text count number closing numbered before did
sent_for (Reading reading.Limit) sent0 sent sent' count text number closing not_end numbered before did = closed_at (Reading reading.Limit) sent0 sent sent' text count number closing numbered before did
sent_for (Reading reading.NoMemory) sent0 sent sent' count text number closing not_end numbered before did = closed_at (Reading reading.NoMemory) sent0 sent sent' text count number closing numbered before did
sent_for (Handling stop) sent0 sent sent' count text number closing not_end numbered before did = closed_at (Handling stop) sent0 sent sent' text count number closing numbered before did
sent_for (Ending stop) sent0 sent sent' count text number closing not_end numbered before did = closed_at (Ending stop) sent0 sent sent' text count number closing numbered before did
sent_for Sending sent0 sent sent' count text number closing not_end numbered before did = (did.0, (before.0, cut_again sent0 sent sent' text before.0 before.1 did.1))

-- nothing is asked of the part but at the end of the input
concluded : (ends : parts.Ending) (ls : List (List ℕ)) (text : List ℕ) (halt : Halt) → halt ≢ Reading reading.End → ((stop : EndStop) → halt ≢ Ending stop) → Concludes ends ls text [] halt
concluded ends ls text (Reading reading.End) not_end unasked = absurd (not_end refl)
concluded ends ls text (Reading reading.Fault) not_end unasked = tt
concluded ends ls text (Reading reading.Limit) not_end unasked = tt
concluded ends ls text (Reading reading.NoMemory) not_end unasked = tt
concluded ends ls text (Handling stop) not_end unasked = tt
concluded ends ls text (Ending stop) not_end unasked = absurd (unasked stop refl)
concluded ends ls text Sending not_end unasked = tt

-- something else than the end of the input ended the run
pub stopped_early : (behind : Walk) (stops : Stopping) (ends : parts.Ending) (old : Edge) (rest : Option (List ℕ)) (reads : ℕ) (sent sent' : Option (List ℕ)) (writes writes' number : ℕ) (halt : Halt) (closing : Result (Unit {0}) SendStop)
    → halt ≢ Reading reading.End → Halted behind stops old (edge rest reads sent writes) number halt → Closes (has_stop_line halt) sent sent' (stop_line (halt_status halt) number) closing
    → writes ≤ writes' → (closing ≡ Err sending.Fault → Rose writes writes') → Ended behind stops ends old (edge rest reads sent' writes') (record { halt = halt; closing = closing })
stopped_early behind stops ends old rest reads sent sent' writes writes' number halt closing not_end h did later rose = record {
  lines = h.lines;
  text = h.text;
  closing = [];
  few = h.few;
  reason = h.reason;
  concludes = concluded ends h.lines h.text halt not_end h.unasked;
  sent = sent_for halt old.sent sent sent' (length h.lines) h.text number closing not_end h.numbered h.sent did;
  causes = last_causes old (edge rest reads sent writes) (edge rest reads sent' writes') h.causes refl later rose (λ at. at) (λ at. at);
}

-- the input ended, and the closing text was sent, or not whole
pub finished : (behind : Walk) (stops : Stopping) (ends : parts.Ending) (old : Edge) (rest : Option (List ℕ)) (reads : ℕ) (sent sent' : Option (List ℕ)) (writes writes' number : ℕ) (last : List ℕ) (closing : Result (Unit {0}) SendStop)
    → Halted behind stops old (edge rest reads sent writes) number (Reading reading.End) → ((ls : List (List ℕ)) (text : List ℕ) → behind ls text → ends ls text (Ok last)) → SentLast sent sent' last closing
    → writes ≤ writes' → (closing ≡ Err sending.Fault → Rose writes writes') → Ended behind stops ends old (edge rest reads sent' writes') (record { halt = Reading reading.End; closing = closing })
finished behind stops ends old rest reads sent sent' writes writes' number last closing h closes did later rose = record {
  lines = h.lines;
  text = h.text;
  closing = last;
  few = h.few;
  reason = h.reason;
  concludes = closes h.lines h.text h.reason.0;
  sent = sent_behind old.sent sent sent' h.text last closing h.sent did;
  causes = last_causes old (edge rest reads sent writes) (edge rest reads sent' writes') h.causes refl later rose (λ at. at) (λ at. at);
}

-- the input ended where it may not
pub unfinished : (behind : Walk) (stops : Stopping) (ends : parts.Ending) (old : Edge) (rest : Option (List ℕ)) (reads : ℕ) (sent sent' : Option (List ℕ)) (writes writes' number : ℕ) (stop : EndStop) (closing : Result (Unit {0}) SendStop)
    → Halted behind stops old (edge rest reads sent writes) number (Reading reading.End) → ((ls : List (List ℕ)) (text : List ℕ) → behind ls text → ends ls text (Err stop))
    → Closes (has_stop_line (Ending stop)) sent sent' (stop_line (halt_status (Ending stop)) number) closing
    → writes ≤ writes' → (closing ≡ Err sending.Fault → Rose writes writes') → Ended behind stops ends old (edge rest reads sent' writes') (record { halt = Ending stop; closing = closing })
unfinished behind stops ends old rest reads sent sent' writes writes' number stop closing h closes did later rose = record {
  lines = h.lines;
  text = h.text;
  closing = [];
  few = h.few;
  reason = h.reason;
  concludes = closes h.lines h.text h.reason.0;
  sent = closed_at (Ending stop) old.sent sent sent' h.text (length h.lines) number closing h.numbered h.sent did;
  causes = last_causes old (edge rest reads sent writes) (edge rest reads sent' writes') h.causes refl later rose (λ at. absurd cc) (λ at. absurd cc);
}
