-- What a manager gives for an input, and what its frames led to.
use Rattle.std.proofs.Common.{◌≡◌, ◌≢◌, ◌∙◌, ℕ, List, [], ◌∷◌, ◌++◌, Some, Result, Ok, Err, refl, ap, sym, subst, arith}
use Rattle.std.specs.Prelude.{IfOk, IfErr, MatchResult, option_map}
use Rattle.iot_bytes.specs.declared.memory.ReadError.{ReadError}
use Rattle.iot_bytes.specs.declared.memory.ReadError.TheVariants as why
use Rattle.sgp_der.specs.Fields.{Gives}
use Rattle.iot_bytes.specs.Frames.{frame}
use Rattle.esipa_codec.specs.Eims.{EimState, bind_end, bound_to, order_end, ordered, skip_end, skipped, message_end, heard}
use Rattle.esipa_codec.specs.Events.{after_event}
use Rattle.esipa_codec.specs.declared.ends.BindEnd.{BindEnd}
use Rattle.esipa_codec.specs.declared.ends.BindEnd.TheVariants as bound
use Rattle.esipa_codec.specs.declared.ends.OrderEnd.{OrderEnd}
use Rattle.esipa_codec.specs.declared.ends.OrderEnd.TheVariants as order_answer
use Rattle.esipa_codec.specs.declared.ends.MessageEnd.{MessageEnd}
use Rattle.esipa_codec.specs.declared.ends.MessageEnd.TheVariants as answer
use Rattle.esipa_codec.specs.declared.messages.ToEim.{ToEim}
use Rattle.small_card.specs.declared.types.Body.{Body}
use Rattle.eim_queue.specs.Queues.{Queue, IsEim, IfOrdered, IfServed, IsSendable}
use Rattle.part_records.specs.Ranges.{IsEimOutput}
use Rattle.part_records.specs.Reading.{eim_input_at}
use Rattle.part_records.specs.Spelling.{eim_output}
use Rattle.part_records.specs.declared.records.EimInput.{EimInput}
use Rattle.part_records.specs.declared.records.EimInput.TheVariants as eim_in
use Rattle.part_records.specs.declared.records.EimOutput.{EimOutput}
use Rattle.run_loop.specs.declared.halt.PartStop.{PartStop}
use Rattle.run_loop.specs.declared.halt.PartStop.TheVariants.{NoMemory}
use Rattle.lone_parts.specs.Folds.{stop_of}
use Rattle.lone_parts.specs.Eims.{event_of, output_of, of_bind, of_order, of_skip, of_message, eim_rule, Gave, LedTo, StoppedAt, Replied}
use Rattle.lone_parts.proofs.Folding.{fold_push}

-- memory wasn't wanting
order_given : (end : OrderEnd) (P : Type 0) → IfOrdered end P → end ≢ order_answer.NoMemory → P
order_given (order_answer.Ordered n) P p there = p
order_given order_answer.Unbound P p there = p
order_given order_answer.CounterSpent P p there = p
order_given order_answer.NoMemory P p there = absurd (there refl)

message_given : (end : MessageEnd) (P : Type 0) → IfServed end P → end ≢ answer.NoMemory → P
message_given (answer.Reply m) P p there = p
message_given answer.Silent P p there = p
message_given answer.NoMemory P p there = absurd (there refl)

pub gave_bind : (e : EimState) (association last : ℕ) (q : Queue) (out : EimOutput) → out ≡ of_bind (bind_end association last e) → IsEim q (bound_to association last e) → Gave e (eim_in.Bind association last) q out
unfolding event_of output_of after_event
gave_bind e association last q out is stands = record { output = is; stands = stands }

pub gave_order : (e : EimState) (body : Body) (q : Queue) (end : OrderEnd) (out : EimOutput) → (out ≡ of_order end) × (end ≢ order_answer.NoMemory) → IfOrdered end (end ≡ order_end e) → IfOrdered end (IsEim q (ordered body e)) → Gave e (eim_in.Order body) q out
unfolding event_of output_of after_event
gave_order e body q end out given is stands = record { output = given.0 ∙ ap of_order (order_given end _ is given.1); stands = order_given end _ stands given.1 }

pub gave_skip : (e : EimState) (q : Queue) (out : EimOutput) → out ≡ of_skip (skip_end e) → IsEim q (skipped e) → Gave e eim_in.Skip q out
unfolding event_of output_of after_event
gave_skip e q out is stands = record { output = is; stands = stands }

pub gave_message : (e : EimState) (m : ToEim) (q : Queue) (end : MessageEnd) (out : EimOutput) → (out ≡ of_message end) × (end ≢ answer.NoMemory) → IfServed end (end ≡ message_end m e) → IfServed end (IsEim q (heard m e)) → Gave e (eim_in.Message m) q out
unfolding event_of output_of after_event
gave_message e m q end out given is stands = record { output = given.0 ∙ ap of_message (message_given end _ is given.1); stands = message_given end _ stands given.1 }

-- what an eIM sends is in range
pub sent_fits : (end : MessageEnd) → IsSendable end → IsEimOutput (of_message end)
unfolding IsEimOutput
sent_fits (answer.Reply m) h = record { range = h.0; short = omega (arith, h.1) }
sent_fits answer.Silent h = tt
sent_fits answer.NoMemory h = tt

-- what a frame was answered with
pub replied : (e : EimState) (f : List ℕ) (x : EimInput) (q : Queue) (out : EimOutput) → eim_input_at f ≡ Some x → Gave e x q out → (s : EimState) × (eim_rule e f ≡ Some (s, eim_output out)) × IsEim q s
unfolding eim_rule
replied e f x q out read gave =
    (after_event (event_of x) e, rw read (ap (λ (o : EimOutput). Some (after_event (event_of x) e, eim_output o)) (sym gave.output)), gave.stands)

-- why a frame that wasn't read has no answer
pub unread : (e : EimState) (f : List ℕ) (q : Queue) (error : ReadError) (stop : PartStop) → Gives {X = EimInput} (Err error) (eim_input_at f) → stop ≡ stop_of error → Replied e f q (Err stop)
unfolding eim_rule
unread e f q why.Malformed stop none is = subst (λ (s : PartStop). Replied e f q (Err s)) (sym is) (ap (option_map (λ (x : EimInput). (after_event (event_of x) e, eim_output (output_of x e)))) none)
unread e f q why.NoMemory stop none is = subst (λ (s : PartStop). Replied e f q (Err s)) (sym is) tt

-- one more frame was answered
pub answered : (first now now' : Queue) (f : List ℕ) (out : EimOutput) → ((e : EimState) → IsEim now e → (s : EimState) × (eim_rule e f ≡ Some (s, eim_output out)) × IsEim now' s) → (fs : List (List ℕ)) (text : List ℕ) → LedTo first now fs text
    → LedTo first now' (fs ++ f ∷ []) (text ++ frame (eim_output out))
answered first now now' f out did fs text led = λ e stands.
    let was = led e stands in
    let (s, step, after) = did was.answered.state was.stands in
    record {
      answered = record { state = s; folds = fold_push eim_rule e fs text was.answered.state f s (eim_output out) was.answered.folds step };
      stands = after;
    }

-- a frame has no answer
pub stopped : (first now : Queue) (f : List ℕ) (stop : PartStop) (q : Queue) → ((e : EimState) → IsEim now e → Replied e f q (Err stop)) → (fs : List (List ℕ)) (text : List ℕ) → LedTo first now fs text → StoppedAt first fs text f stop
stopped first now f stop q did fs text led = λ e stands.
    let was = led e stands in
    record { folded = was.answered; reason = did was.answered.state was.stands }

-- every way of it
pub bound_fits : (end : BindEnd) → IsEimOutput (of_bind end)
unfolding IsEimOutput
bound_fits bound.Bound = tt
bound_fits (bound.Low used) = tt

pub order_all : (e : EimState) (body : Body) (q : Queue) (end : OrderEnd) (r : Result EimOutput PartStop) → MatchResult r (λ o. (o ≡ of_order end) × (end ≢ order_answer.NoMemory)) (λ s. s ≡ NoMemory) → IfOrdered end (end ≡ order_end e) → IfOrdered end (IsEim q (ordered body e)) → IfOk r (λ o. Gave e (eim_in.Order body) q o)
order_all e body q end (Ok o) given is stands = gave_order e body q end o given is stands
order_all e body q end (Err s) given is stands = tt

pub message_all : (e : EimState) (m : ToEim) (q : Queue) (end : MessageEnd) (r : Result EimOutput PartStop) → MatchResult r (λ o. (o ≡ of_message end) × (end ≢ answer.NoMemory)) (λ s. s ≡ NoMemory) → IfServed end (end ≡ message_end m e) → IfServed end (IsEim q (heard m e)) → IfOk r (λ o. Gave e (eim_in.Message m) q o)
message_all e m q end (Ok o) given is stands = gave_message e m q end o given is stands
message_all e m q end (Err s) given is stands = tt

pub sent_all : (end : MessageEnd) (r : Result EimOutput PartStop) → MatchResult r (λ o. (o ≡ of_message end) × (end ≢ answer.NoMemory)) (λ s. s ≡ NoMemory) → IsSendable end → IfOk r IsEimOutput
sent_all end (Ok o) given fits = subst IsEimOutput (sym given.0) (sent_fits end fits)
sent_all end (Err s) given fits = tt

pub reply_all : (e : EimState) (f : List ℕ) (x : EimInput) (q : Queue) (r : Result EimOutput PartStop) → eim_input_at f ≡ Some x → IfOk r (λ o. Gave e x q o) → IfErr r (λ s. s ≡ NoMemory) → Replied e f q r
reply_all e f x q (Ok o) read gave stop = replied e f x q o read gave
reply_all e f x q (Err s) read gave stop = subst (λ (t : PartStop). Replied e f q (Err t)) (sym stop) tt
