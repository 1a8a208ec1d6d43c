-- What a card stands for after it answered a frame, or stopped at it, and what its chip holds.
use Rattle.std.specs.Prelude.{option_map, IfOk, OnOk}
use Rattle.std.proofs.Common.{◌≡◌, ◌∙◌, ap, sym, subst, inl, inr, ℕ, ◌+◌, ◌*◌, true, false, Bool, List, [], ◌∷◌, ◌++◌, length, length-append, Option, Some, None, Result, Ok, Err, arith}
use Rattle.iot_bytes.specs.Frames.{frame}
use Rattle.chip_port.specs.Seen.{Seen, Tally}
use Rattle.chip_port.specs.Rules.{IfTold}
use Rattle.chip_port.specs.Runs.{Went}
use Rattle.chip_port.proofs.Runs.{went_then}
use Rattle.small_card.specs.Cards.{FullCard}
use Rattle.small_card.specs.Histories.{History}
use Rattle.small_card.specs.Ranges.{IsAnswer}
use Rattle.small_card.specs.declared.types.Answer.{Answer}
use Rattle.small_card.specs.declared.types.Answer.TheVariants.{Personalised}
use Rattle.small_card.specs.declared.types.Command.{Command}
use Rattle.es10_codec.specs.Reading.{command_at}
use Rattle.es10_codec.specs.Spelling.{answer}
use Rattle.es10_codec.proofs.AnswerCodec.{answer_few}
use Rattle.card_store.specs.Holding.{Mark}
use Rattle.card_store.specs.Looking.{HasCauseOf}
use Rattle.euicc_core.specs.Steps.{IsLitOn}
use Rattle.run_loop.specs.Parts.{Answers}
use Rattle.run_loop.specs.declared.halt.PartStop.{PartStop}
use Rattle.run_loop.specs.declared.halt.PartStop.TheVariants.{ChipFault, Malformed, Unrecognised, NoMemory}
use Rattle.lone_card.specs.Cards.{reply_to, after_frame, history_of, sent_for, output}
use Rattle.lone_card.specs.Marks.{unit_in, opened, marks_after, marks_of}
use Rattle.lone_card.specs.Answering.{StandsFor, Replied, IsBegun, BegunBy, Puts}
use Rattle.lone_card.specs.Benches.{Rests, GoesOn, BreaksOff, Works, Makes, IsLitPart, IsReady}
use Rattle.lone_card.specs.Walks.{IsLater, ChipLed, LedTo, ChipBroke, ChipRests, ChipStopped, StoppedAt}
use Rattle.lone_card.specs.Starting.{stands_rightful}
use Rattle.lone_card.proofs.Histories.{history_of-push, output-push, begins-push}
use Rattle.lone_card.proofs.Topping.{marks_from-push, marks_topped}

-- the card that a first frame made
pub reply_begun : (held : Option FullCard) (o : Option History) (f : List ℕ) → StandsFor None o → IsBegun (command_at f) held → Replied o f (Some held) (Ok Personalised)
unfolding reply_to after_frame
reply_begun held (Some h) f s begun = absurd s
reply_begun held None f s begun = (ap (λ (x : Option History). option_map (λ h. Personalised) x) begun.starts, subst (StandsFor (Some held)) (sym begun.starts) (begun.holds, begun.legal))

-- such a card can answer the next frame
pub begun_ready : {T E : Type 0} (result : Result T E) (held : Option FullCard) (c : Option Command) (s : Seen) → IsBegun c held → IfTold s (IsLitOn held s) → OnOk result (IsReady (Some held) s)
begun_ready (Ok done) held c s begun lit = record { there = (Some begun.history, (begun.holds, begun.legal)); settled = lit }
begun_ready (Err error) held c s begun lit = tt

-- why a call failed is why it has no reply, and a reply needs no cause
pub cause_of_none : {T : Type 0} (fault reason : PartStop) (s t : Seen) → HasCauseOf {T = T} fault s t (Err reason) → HasCauseOf {T = Answer} fault s t (Err reason)
cause_of_none {T} fault reason s t h = record {
  told = h.told;
  monotone = h.monotone;
  cause = λ is. let same : reason ≡ fault = cc in h.cause (ap (λ (x : PartStop). Err x) same);
}

pub cause_of_reply : {T : Type 0} (fault : PartStop) (s t : Seen) (made : T) (a : Answer) → HasCauseOf fault s t (Ok made) → HasCauseOf fault s t (Ok a)
cause_of_reply fault s t made a h = record { told = h.told; monotone = h.monotone; cause = λ is. absurd cc }

-- the first frame made none
pub not_begun : (o : Option History) (f : List ℕ) (stop : PartStop) (now : Option (Option FullCard)) → StandsFor None o → BegunBy (command_at f) (Err stop) → Replied o f now (Err stop)
unfolding reply_to
not_begun (Some h) f stop now s begun = absurd s
not_begun None f ChipFault now s begun = tt
not_begun None f Malformed now s begun = absurd begun
not_begun None f Unrecognised now s begun = ap (λ (x : Option History). option_map (λ h. Personalised) x) begun
not_begun None f NoMemory now s begun = tt

-- what a first frame makes of the chip
pub begun_works : (held : Option FullCard) (o : Option History) (f : List ℕ) (a : Answer) (s t : Seen) → StandsFor None o → Makes (command_at f) (Ok held) s t → Works o f (Ok a) s t
unfolding after_frame marks_after
begun_works held (Some h) f a s t at made = absurd at
begun_works held None f a s t at made = made

pub not_begun_works : (o : Option History) (f : List ℕ) (stop : PartStop) (s t : Seen) → StandsFor None o → Makes (command_at f) (Err stop) s t → Works o f (Err stop) s t
unfolding unit_in
not_begun_works (Some h) f stop s t at made = absurd at
not_begun_works None f ChipFault s t at made = made
not_begun_works None f Malformed s t at made = made
not_begun_works None f Unrecognised s t at made = made
not_begun_works None f NoMemory s t at made = made

calls_more : (fs : List (List ℕ)) (ok : Bool) (a b c : Tally) → Went (10000 * length fs) true a b → Went 10000 ok b c → Went (10000 * (length fs + 1)) ok a c
calls_more fs ok a b c was now =
    let same : 10000 * length fs + 10000 ≡ 10000 * (length fs + 1) = omega arith in
    subst (λ (n : ℕ). Went n ok a c) same (went_then (10000 * length fs) 10000 ok a b c was now)

calls_push : (fs : List (List ℕ)) (f : List ℕ) (a c : Tally) → Went (10000 * (length fs + 1)) true a c → Went (10000 * length (fs ++ f ∷ [])) true a c
calls_push fs f a c went =
    let same : length fs + 1 ≡ length (fs ++ f ∷ []) = omega (arith, length-append fs (f ∷ [])) in
    subst (λ (n : ℕ). Went (10000 * n) true a c) same went

-- the chip after one frame more
rests_more : (start : Option History) (fs : List (List ℕ)) (f : List ℕ) (first : ℕ) (t : Seen) → Rests t first (after_frame (history_of start fs) f) (marks_after (history_of start fs) (marks_of start fs) f)
    → Rests t first (history_of start (fs ++ f ∷ [])) (marks_of start (fs ++ f ∷ []))
rests_more start fs f first t at =
    subst (λ (o : Option History). Rests t first o (marks_of start (fs ++ f ∷ []))) (sym (history_of-push start fs f))
    (subst (λ (m : List Mark). Rests t first (after_frame (history_of start fs) f) m) (sym (marks_from-push start (opened start) fs f)) at)

chip_more : (start : Option History) (fs : List (List ℕ)) (f : List ℕ) (s t u : Seen) → ChipLed start fs s t → GoesOn (history_of start fs) (after_frame (history_of start fs) f) (λ marks. marks_after (history_of start fs) marks f) t u
    → ChipRests start (fs ++ f ∷ []) (length fs + 1) s u
chip_more start fs f s t u led g = record {
  calls = calls_more fs true s.tally t.tally u.tally led.calls g.calls;
  rests = λ first at. rests_more start fs f first u (g.rests first (marks_of start fs) (marks_topped start fs) (led.rests first at));
}

chip_same : (start : Option History) (fs : List (List ℕ)) (s t u : Seen) → ChipLed start fs s t → GoesOn (history_of start fs) (history_of start fs) (λ marks. marks) t u → ChipRests start fs (length fs + 1) s u
chip_same start fs s t u led g = record {
  calls = calls_more fs true s.tally t.tally u.tally led.calls g.calls;
  rests = λ first at. g.rests first (marks_of start fs) (marks_topped start fs) (led.rests first at);
}

chip_broke : (start : Option History) (fs : List (List ℕ)) (f : List ℕ) (s t u : Seen) → ChipLed start fs s t → BreaksOff (history_of start fs) (unit_in (history_of start fs) f) t u → ChipBroke start fs f s u
chip_broke start fs f s t u led b = record {
  calls = calls_more fs false s.tally t.tally u.tally led.calls b.calls;
  holds = λ first at. b.holds first (marks_of start fs) (marks_topped start fs) (led.rests first at);
}

chip_stopped : (start : Option History) (fs : List (List ℕ)) (f : List ℕ) (stop : PartStop) (s t u : Seen) → ChipLed start fs s t → Works (history_of start fs) f (Err stop) t u → ChipStopped start fs f stop s u
chip_stopped start fs f ChipFault s t u led w = chip_broke start fs f s t u led w
chip_stopped start fs f Malformed s t u led w = w
chip_stopped start fs f Unrecognised s t u led w = chip_same start fs s t u led w
chip_stopped start fs f NoMemory s t u led w = inl (chip_same start fs s t u led w)

later_then : (s t u : Seen) (stop : PartStop) {T : Type 0} (result : Result T PartStop) → IsLater s t → HasCauseOf stop t u result → IsLater s u
later_then s t u stop result l h = record { told = h.told ∙ l.told; monotone = omega (arith, l.monotone, h.monotone) }

-- one more frame was answered
pub answered : (first now now' : Option (Option FullCard)) (s t u : Seen) (f : List ℕ) (a : Answer)
    → ((o : Option History) → StandsFor now o → Replied o f now' (Ok a)) → HasCauseOf ChipFault t u (Ok a) → IfTold t ((o : Option History) → StandsFor now o → Works o f (Ok a) t u)
    → (fs : List (List ℕ)) (text : List ℕ) → LedTo first s now t fs text → LedTo first s now' u (fs ++ f ∷ []) (text ++ frame (answer a))
answered first now now' s t u f a did cause works fs text led = λ start at.
    let was = led start at in
    let o = history_of start fs in
    let (reply, after) = did o was.stands in
    let stands = subst (StandsFor now') (sym (history_of-push start fs f)) after in
    record {
      stands = stands;
      answered = record {
        sent = ap (λ (z : List ℕ). z ++ frame (answer a)) was.answered.sent ∙ sym (output-push start fs f ∙ ap (λ (x : Option Answer). output start fs ++ sent_for x) reply);
        begins = begins-push start fs f was.answered.begins (λ none. let two : Some a ≡ None = sym reply ∙ none in absurd cc);
        rightful = stands_rightful now' (history_of start (fs ++ f ∷ [])) stands;
      };
      later = later_then s t u ChipFault (Ok a) was.later cause;
      chip = λ told.
          let more = chip_more start fs f s t u (was.chip told) (works (was.later.told ∙ told) o was.stands) in
          record { calls = calls_push fs f s.tally u.tally more.calls; rests = more.rests };
    }

-- the card has no reply to a frame
pub stopped : (first now now' : Option (Option FullCard)) (s t u : Seen) (f : List ℕ) (stop : PartStop)
    → ((o : Option History) → StandsFor now o → Replied o f now' (Err stop)) → HasCauseOf {T = Answer} ChipFault t u (Err stop) → IfTold t ((o : Option History) → StandsFor now o → Works o f (Err stop) t u)
    → (fs : List (List ℕ)) (text : List ℕ) → LedTo first s now t fs text → StoppedAt first s u fs text f stop
stopped first now now' s t u f stop did cause works fs text led = λ start at.
    let was = led start at in
    let o = history_of start fs in
    record {
      answered = was.answered;
      reason = did o was.stands;
      later = later_then s t u ChipFault (Err stop) was.later cause;
      cause = λ is. omega (arith, was.later.monotone, cause.cause (ap (λ (x : PartStop). Err x) is));
      chip = λ told. chip_stopped start fs f stop s t u (was.chip told) (works (was.later.told ∙ told) o was.stands);
    }

-- there was no memory for the octets of a reply
pub unwritten : (first now now' : Option (Option FullCard)) (s t u : Seen) (f : List ℕ) (a : Answer)
    → ((o : Option History) → StandsFor now o → Replied o f now' (Ok a)) → HasCauseOf ChipFault t u (Ok a) → IfTold t ((o : Option History) → StandsFor now o → Works o f (Ok a) t u)
    → (fs : List (List ℕ)) (text : List ℕ) → LedTo first s now t fs text → StoppedAt first s u fs text f NoMemory
unwritten first now now' s t u f a did cause works fs text led = λ start at.
    let was = led start at in
    let o = history_of start fs in
    record {
      answered = was.answered;
      reason = tt;
      later = later_then s t u ChipFault (Ok a) was.later cause;
      cause = λ is. absurd cc;
      chip = λ told. inr (chip_more start fs f s t u (was.chip told) (works (was.later.told ∙ told) o was.stands));
    }

-- what came of a frame, once its reply was put behind what stood there
pub put_answers : {P : Type 0} (card : P → Option (Option FullCard)) (chip : P → Seen) (old new : P) (f out out' : List ℕ) (reply : Result Answer PartStop) (result : Result (Unit {0}) PartStop)
    → ((o : Option History) → StandsFor (card old) o → Replied o f (card new) reply) → HasCauseOf ChipFault (chip old) (chip new) reply
    → IfTold (chip old) ((o : Option History) → StandsFor (card old) o → Works o f reply (chip old) (chip new)) → IfOk reply IsAnswer → Puts reply out out' result
    → Answers (λ first now fs text. LedTo (card first) (chip first) (card now) (chip now) fs text) (λ first now fs text g stop. StoppedAt (card first) (chip first) (chip now) fs text g stop) old new f out out' result
put_answers card chip old new f out out' (Ok a) (Ok done) did cause works range put = record {
  content = answer a;
  appended = put;
  short = omega (arith, answer_few a range);
  stands = λ first fs text led. answered (card first) (card old) (card new) _ _ _ f a did cause works fs text led;
}
put_answers card chip old new f out out' (Ok a) (Err stop) did cause works range put = λ first fs text led.
    subst (λ s. StoppedAt (card first) (chip first) (chip new) fs text f s) (sym put) (unwritten (card first) (card old) (card new) _ _ _ f a did cause works fs text led)
put_answers card chip old new f out out' (Err reason) (Ok done) did cause works range put = absurd put
put_answers card chip old new f out out' (Err reason) (Err stop) did cause works range put = λ first fs text led.
    subst (λ s. StoppedAt (card first) (chip first) (chip new) fs text f s) (sym put) (stopped (card first) (card old) (card new) _ _ _ f reason did cause works fs text led)

-- a card whose reply was put can answer the next frame
pub put_ready : (now now' : Option (Option FullCard)) (s t : Seen) (f out out' : List ℕ) (reply : Result Answer PartStop) (result : Result (Unit {0}) PartStop)
    → IsReady now s → ((o : Option History) → StandsFor now o → Replied o f now' reply) → IfTold t (IsLitPart now' t) → Puts reply out out' result → OnOk result (IsReady now' t)
put_ready now now' s t f out out' (Ok a) (Ok done) ready did lit put =
    record { there = (after_frame ready.there.0 f, (did ready.there.0 ready.there.1).1); settled = lit }
put_ready now now' s t f out out' (Err reason) (Ok done) ready did lit put = absurd put
put_ready now now' s t f out out' reply (Err stop) ready did lit put = tt
