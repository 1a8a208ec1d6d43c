-- The turns of a run, and how it ends.
use Rattle.std.proofs.Common.{◌≡◌, ℕ, ◌+◌, ◌<◌, ◌≤◌, List, [], ◌∷◌, ◌++◌, length, Option, Some, Result, Err, refl, sym, subst, ◌∙◌, length-append, arith}
use Rattle.iot_bytes.specs.Causes.{Rose}
use Rattle.iot_bytes.specs.Frames.{frame, IsLeft}
use Rattle.iot_bytes.specs.declared.frame.TheConstants.{FRAME_HEAD_LEN}
use Rattle.es10_codec.specs.Spelling.{stopped}
use Rattle.run_loop.specs.declared.reading.TheConstants.{MOST_FRAMES}
use Rattle.run_loop.specs.declared.halt.PartStop.{PartStop}
use Rattle.run_loop.specs.declared.halt.ReadStop.{ReadStop}
use Rattle.run_loop.specs.declared.halt.ReadStop.TheVariants as reading
use Rattle.run_loop.specs.declared.halt.SendStop.{SendStop}
use Rattle.run_loop.specs.declared.halt.SendStop.TheVariants as sending
use Rattle.run_loop.specs.declared.halt.Halt.{Halt}
use Rattle.run_loop.specs.declared.halt.Halt.TheVariants.{Reading, Answering, Sending}
use Rattle.run_loop.specs.Edges.{Edge, edge}
use Rattle.run_loop.specs.Frames.{IsTaken, NoFrame}
use Rattle.run_loop.specs.Sends.{HasSent, HasSentInto, Closes}
use Rattle.run_loop.specs.Status.{read_status, part_status, halt_status, has_record}
use Rattle.run_loop.specs.Parts.{Walk, Stopping}
use Rattle.run_loop.specs.Runs.{Progress, Halted, IsNumbered, SentBefore, SentFor, Ended, IsUnopened, record_behind}
use Rattle.run_loop.proofs.Causes.{last_causes, more_causes, no_causes}
use Rattle.run_loop.proofs.Going.{closed, cut_again, sent-more, sent-into, sent-none, taken-more, taken-none}

-- no frame was answered yet
pub at_first : (walk : Walk) (e : Edge) → walk [] [] → Progress walk e e 0
at_first walk e begins = record {
  frames = [];
  text = [];
  counted = refl;
  stands = begins;
  taken = taken-none e.rest;
  sent = sent-none e.sent;
  causes = no_causes e;
}

-- a frame was answered, and its answer was sent
pub answered : (walk next : Walk) (old before now : Edge) (count : ℕ) (f content : List ℕ) → Progress walk old before count
    → ((fs : List (List ℕ)) (text : List ℕ) → walk fs text → next (fs ++ f ∷ []) (text ++ frame content))
    → ((octets : List ℕ) → before.rest ≡ Some octets → IsTaken f octets now.rest) → HasSent before.sent now.sent (frame content)
    → before.read_faults ≤ now.read_faults → before.write_faults ≤ now.write_faults → Progress next old now (count + 1)
answered walk next old before now count f content p did taken sent read_later write_later = record {
  frames = p.frames ++ f ∷ [];
  text = p.text ++ frame content;
  counted = omega (arith, length-append p.frames (f ∷ []), p.counted);
  stands = did p.frames p.text p.stands;
  taken = taken-more old.rest before.rest now.rest p.frames f p.taken taken;
  sent = sent-more old.sent before.sent now.sent p.text (frame content) p.sent sent;
  causes = more_causes old before now p.causes read_later write_later (λ no. absurd no) (λ no. absurd no);
}

-- no octet was taken
pub nothing_taken : (octets : List ℕ) (left : Option (List ℕ)) → left ≡ Some octets → IsLeft octets left FRAME_HEAD_LEN
nothing_taken octets left is = (0, omega arith, omega arith, is)

-- there is no further frame
pub read_no_more : (walk : Walk) (stops : Stopping) (old before now : Edge) (count : ℕ) (stop : ReadStop) → count ≤ MOST_FRAMES → Progress walk old before count
    → ((octets : List ℕ) → before.rest ≡ Some octets → NoFrame count octets now.rest stop) → now.sent ≡ before.sent
    → before.read_faults ≤ now.read_faults → before.write_faults ≤ now.write_faults → (stop ≡ reading.Fault → Rose before.read_faults now.read_faults)
    → Halted walk stops old now (count + 1) (Reading stop)
read_no_more walk stops old before now count stop few p none same read_later write_later rose = record {
  frames = p.frames;
  text = p.text;
  few = omega (arith, few, p.counted);
  numbered = omega (arith, p.counted);
  reason = (
    p.stands,
    λ input is.
        let (tail, parts, short, at) = p.taken input is in
        (tail, parts, short, subst (λ (n : ℕ). NoFrame n tail now.rest stop) (sym p.counted) (none tail at)),
  );
  sent = λ sent0 is. same ∙ p.sent sent0 is;
  causes = more_causes old before now p.causes read_later write_later (λ at. let fault : stop ≡ reading.Fault = cc in rose fault) (λ at. absurd cc);
}

-- the part stops at a frame
pub answer_no_more : (walk next : Walk) (stops : Stopping) (old before now : Edge) (count : ℕ) (f : List ℕ) (stop : PartStop) → count < MOST_FRAMES → Progress walk old before count
    → ((fs : List (List ℕ)) (text : List ℕ) → walk fs text → stops fs text f stop)
    → ((octets : List ℕ) → before.rest ≡ Some octets → IsTaken f octets now.rest) → now.sent ≡ before.sent
    → before.read_faults ≤ now.read_faults → before.write_faults ≤ now.write_faults → Halted next stops old now (count + 1) (Answering stop)
answer_no_more walk next stops old before now count f stop few p did taken same read_later write_later = record {
  frames = p.frames;
  text = p.text;
  few = omega (arith, few, p.counted);
  numbered = omega (arith, p.counted);
  reason = (
    f,
    did p.frames p.text p.stands,
    λ input is.
        let (tail, parts, short, at) = p.taken input is in
        (tail, parts, short, taken tail at),
    omega (arith, few, p.counted),
  );
  sent = λ sent0 is. same ∙ p.sent sent0 is;
  causes = more_causes old before now p.causes read_later write_later (λ at. absurd cc) (λ at. absurd cc);
}

-- the answer to a frame wasn't sent whole
pub cut_short : (walk next : Walk) (stops : Stopping) (old before now : Edge) (count : ℕ) (f content : List ℕ) → count < MOST_FRAMES → Progress walk old before count
    → ((fs : List (List ℕ)) (text : List ℕ) → walk fs text → next (fs ++ f ∷ []) (text ++ frame content))
    → ((octets : List ℕ) → before.rest ≡ Some octets → IsTaken f octets now.rest) → HasSentInto before.sent now.sent [] (frame content)
    → before.read_faults ≤ now.read_faults → before.write_faults ≤ now.write_faults → Rose before.write_faults now.write_faults → Halted next stops old now (count + 1) Sending
cut_short walk next stops old before now count f content few p did taken sent read_later write_later rose = record {
  frames = p.frames ++ f ∷ [];
  text = p.text ++ frame content;
  few = omega (arith, few, length-append p.frames (f ∷ []), p.counted);
  numbered = omega (arith, length-append p.frames (f ∷ []), p.counted);
  reason = (did p.frames p.text p.stands, taken-more old.rest before.rest now.rest p.frames f p.taken taken);
  sent = (content, record { before = p.text; parts = refl; sent = sent-into old.sent before.sent now.sent p.text (frame content) p.sent sent });
  causes = more_causes old before now p.causes read_later write_later (λ at. absurd cc) (λ at. rose);
}

sent_for : (sent0 sent sent' : Option (List ℕ)) (fs : List (List ℕ)) (text : List ℕ) (number : ℕ) (halt : Halt) (closing : Result (Unit {0}) SendStop) → IsNumbered number (length fs) halt → SentBefore sent0 sent text halt
    → Closes (has_record halt) sent sent' (frame (stopped (halt_status halt) number)) closing → SentFor sent0 sent' fs text halt closing
sent_for sent0 sent sent' fs text number (Reading stop) closing numbered before did =
    closed (has_record (Reading stop)) sent0 sent sent' text (record_behind (read_status stop) (length fs)) closing before
    (subst (λ (n : ℕ). Closes (has_record (Reading stop)) sent sent' (frame (stopped (read_status stop) n)) closing) numbered did)
sent_for sent0 sent sent' fs text number (Answering stop) closing numbered before did =
    closed (has_record (Answering stop)) sent0 sent sent' text (record_behind (part_status stop) (length fs)) closing before
    (subst (λ (n : ℕ). Closes (has_record (Answering stop)) sent sent' (frame (stopped (part_status stop) n)) closing) numbered did)
sent_for sent0 sent sent' fs text number Sending closing numbered before did = (did.0, (before.0, cut_again sent0 sent sent' text (frame before.0) before.1 did.1))

-- the stop record was written, where one is due, or not whole
pub ended : (behind : Walk) (stops : Stopping) (old : Edge) (rest : Option (List ℕ)) (reads : ℕ) (sent sent' : Option (List ℕ)) (writes writes' number : ℕ) (halt : Halt) (closing : Result (Unit {0}) SendStop)
    → Halted behind stops old (edge rest reads sent writes) number halt → Closes (has_record halt) sent sent' (frame (stopped (halt_status halt) number)) closing
    → writes ≤ writes' → (closing ≡ Err sending.Fault → Rose writes writes') → Ended behind stops old (edge rest reads sent' writes') (record { halt = halt; closing = closing })
ended behind stops old rest reads sent sent' writes writes' number halt closing h did later rose = record {
  frames = h.frames;
  text = h.text;
  few = h.few;
  reason = h.reason;
  sent = sent_for old.sent sent sent' h.frames h.text number halt closing h.numbered h.sent did;
  causes = last_causes old (edge rest reads sent writes) (edge rest reads sent' writes') h.causes refl later rose (λ at. at) (λ at. at);
}

-- before the first frame
pub unopened : (rest sent sent' : Option (List ℕ)) (reads writes writes' : ℕ) (stop : PartStop) (closing : Result (Unit {0}) SendStop)
    → Closes (has_record (Answering stop)) sent sent' (frame (stopped (part_status stop) 0)) closing → writes ≤ writes' → (closing ≡ Err sending.Fault → Rose writes writes')
    → IsUnopened stop (edge rest reads sent writes) (edge rest reads sent' writes') (record { halt = Answering stop; closing = closing })
unopened rest sent sent' reads writes writes' stop closing did later rose = record {
  halts = refl;
  untaken = refl;
  unread = refl;
  sent = did;
  causes = record { read_later = omega arith; write_later = later; read = λ no. absurd no; write = rose };
}
