-- What frames make of a manager, and what it gives for each.
use Rattle.std.specs.Prelude.{◌≡◌, ℕ, List, Option, Some, None, option_map, Result, Ok, Err}
use Rattle.esipa_codec.specs.Eims.{EimState, bind_end, order_end, skip_end, message_end}
use Rattle.esipa_codec.specs.Events.{EimEvent, bind, order, skip, message, after_event}
use Rattle.esipa_codec.specs.declared.ends.BindEnd.{BindEnd}
use Rattle.esipa_codec.specs.declared.ends.BindEnd.TheVariants as bound
use Rattle.esipa_codec.specs.declared.ends.OrderEnd.{OrderEnd}
use Rattle.esipa_codec.specs.declared.ends.OrderEnd.TheVariants as order_answer
use Rattle.esipa_codec.specs.declared.ends.MessageEnd.{MessageEnd}
use Rattle.esipa_codec.specs.declared.ends.MessageEnd.TheVariants as answer
use Rattle.eim_queue.specs.Queues.{Queue, IsEim}
use Rattle.part_records.specs.Reading.{eim_input_at}
use Rattle.part_records.specs.Spelling.{eim_output}
use Rattle.part_records.specs.declared.records.EimInput.{EimInput}
use Rattle.part_records.specs.declared.records.EimInput.TheVariants as eim_in
use Rattle.part_records.specs.declared.records.EimOutput.{EimOutput}
use Rattle.part_records.specs.declared.records.EimOutput.TheVariants as eim_out
use Rattle.part_records.specs.declared.records.EimRefusal.TheVariants as refusal
use Rattle.run_loop.specs.declared.halt.PartStop.{PartStop}
use Rattle.lone_parts.specs.Folds.{AreFolded, StopsAt, HasNone}

-- the event that an input is
unfoldable pub event_of : EimInput → EimEvent
event_of (eim_in.Bind association last) = bind association last
event_of (eim_in.Order body) = order body
event_of eim_in.Skip = skip
event_of (eim_in.Message m) = message m

abbrev pub of_bind : BindEnd → EimOutput
of_bind bound.Bound = eim_out.Bound
of_bind (bound.Low used) = eim_out.Refused refusal.BindLow

-- the definition of a manager never wants memory
abbrev pub of_order : OrderEnd → EimOutput
of_order (order_answer.Ordered counter) = eim_out.Ordered counter
of_order order_answer.Unbound = eim_out.Refused refusal.Unbound
of_order order_answer.CounterSpent = eim_out.Refused refusal.CounterSpent
of_order order_answer.NoMemory = eim_out.Silent

abbrev pub of_skip : Option ℕ → EimOutput
of_skip (Some counter) = eim_out.Skipped counter
of_skip None = eim_out.Refused refusal.NoneWaiting

abbrev pub of_message : MessageEnd → EimOutput
of_message (answer.Reply m) = eim_out.Reply m
of_message answer.Silent = eim_out.Silent
of_message answer.NoMemory = eim_out.Silent

-- what a manager gives for an input
unfoldable pub output_of : EimInput → EimState → EimOutput
output_of (eim_in.Bind association last) e = of_bind (bind_end association last e)
output_of (eim_in.Order body) e = of_order (order_end e)
output_of eim_in.Skip e = of_skip (skip_end e)
output_of (eim_in.Message m) e = of_message (message_end m e)

-- what a frame makes of a manager, and what it gives for the frame
unfoldable pub eim_rule : EimState → List ℕ → Option (EimState × List ℕ)
eim_rule e f = option_map (λ x. (after_event (event_of x) e, eim_output (output_of x e))) (eim_input_at f)

-- a queue stands for some manager
abbrev pub IsSome : Queue → Type 0
IsSome q = (e : EimState) × IsEim q e

-- a manager that gave this for an input
pub record Gave (e : EimState) (x : EimInput) (q : Queue) (out : EimOutput) : Type 0 where
  pub output : out ≡ output_of x e
  pub stands : IsEim q (after_event (event_of x) e)

-- from the first queue on these frames led to the second one, with this text
pub record Led (e : EimState) (q : Queue) (fs : List (List ℕ)) (text : List ℕ) : Type 0 where
  pub answered : AreFolded eim_rule e fs text
  pub stands : IsEim q answered.state

abbrev pub LedTo : Queue → Queue → List (List ℕ) → List ℕ → Type 0
LedTo first now fs text = (e : EimState) → IsEim first e → Led e now fs text

abbrev pub StoppedAt : Queue → List (List ℕ) → List ℕ → List ℕ → PartStop → Type 0
StoppedAt first fs text f stop = (e : EimState) → IsEim first e → StopsAt eim_rule e fs text f stop

-- what a manager gives for a frame, or why nothing
abbrev pub Replied : EimState → List ℕ → Queue → Result EimOutput PartStop → Type 0
Replied e f q (Ok out) = (s : EimState) × (eim_rule e f ≡ Some (s, eim_output out)) × IsEim q s
Replied e f q (Err stop) = HasNone eim_rule e f stop
