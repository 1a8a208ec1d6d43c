-- An eIM: what it is bound to, all orders, all results of its identifier that it received, and all
-- refusals. Its records and the orders that wait are looked up.
use Rattle.std.specs.Prelude.{ℕ, ◌+◌, ◌≤◌, List, [], ◌∷◌, ◌++◌, map, filter, not, nat_lt, ◌==◌, ◌&&◌, Bool, true, false, if◌then◌else◌, Option, Some, None}
use Rattle.std.specs.List.{find}
use Rattle.small_card.specs.Lists.{same, greatest}
use Rattle.small_card.specs.Ranges.{IsNumber, greatest_counter}
use Rattle.small_card.specs.declared.types.Body.{Body}
use Rattle.small_card.specs.declared.types.PackageResult.{PackageResult}
use Rattle.small_card.specs.declared.types.Refused.{Refused}
use Rattle.small_card.specs.declared.types.Signed.{Signed}
use Rattle.package_codec.specs.Spelling.{signed}
use Rattle.esipa_codec.specs.Records.{is_recorded}
use Rattle.esipa_codec.specs.declared.messages.ToEim.{ToEim}
use Rattle.esipa_codec.specs.declared.messages.ToEim.TheVariants as to_eim
use Rattle.esipa_codec.specs.declared.messages.ToIpa.{ToIpa}
use Rattle.esipa_codec.specs.declared.messages.ToIpa.TheVariants as to_ipa
use Rattle.esipa_codec.specs.declared.ends.Binding.{Binding}
use Rattle.esipa_codec.specs.declared.ends.BindEnd.{BindEnd}
use Rattle.esipa_codec.specs.declared.ends.BindEnd.TheVariants as bound
use Rattle.esipa_codec.specs.declared.ends.OrderEnd.{OrderEnd}
use Rattle.esipa_codec.specs.declared.ends.OrderEnd.TheVariants as order_answer
use Rattle.esipa_codec.specs.declared.ends.MessageEnd.{MessageEnd}
use Rattle.esipa_codec.specs.declared.ends.MessageEnd.TheVariants as answer

-- Numbers of the binding are in range.
abbrev pub IsBinding : Binding → Type 0
IsBinding b = IsNumber b.association × (b.last ≤ greatest_counter)

-- An order: the association and counter of its package, its operations, and whether it was given up.
pub record Order : Type 0 where
  pub association : ℕ
  pub counter : ℕ
  pub body : Body
  pub skipped : Bool

-- Orders stand oldest first, what was received newest first.
pub record EimState : Type 0 where
  pub id : List ℕ
  pub eid : List ℕ
  pub bound : Option Binding
  pub orders : List Order
  pub received : List PackageResult
  pub refusals : List Refused

-- A new eIM is unbound, and nothing was ordered or received.
abbrev pub new_eim : List ℕ → List ℕ → EimState
new_eim id eid = record { id = id; eid = eid; bound = None; orders = []; received = []; refusals = [] }

-- The counters of the orders of an association.
unfoldable pub counters_of : ℕ → List Order → List ℕ
counters_of association orders = map (λ o. o.counter) (filter (λ o. o.association == association) orders)

-- Binding: later orders use this association, and counters go on behind the last one, unless an
-- order of that association has a greater one.
unfoldable pub bind_end : ℕ → ℕ → EimState → BindEnd
bind_end association last e =
    let used = greatest (counters_of association e.orders) in
    if nat_lt last used then bound.Low used else bound.Bound

unfoldable pub bound_to : ℕ → ℕ → EimState → EimState
bound_to association last e =
    if nat_lt last (greatest (counters_of association e.orders)) then e
    else record e { bound = Some (record { association = association; last = last }) }

-- An order gets the next counter of the association that the eIM is bound to.
abbrev pub order_end_of : Option Binding → OrderEnd
order_end_of None = order_answer.Unbound
order_end_of (Some b) = if b.last == greatest_counter then order_answer.CounterSpent else order_answer.Ordered (b.last + 1)

unfoldable pub order_end : EimState → OrderEnd
order_end e = order_end_of e.bound

abbrev pub ordered_by : Option Binding → Body → EimState → EimState
ordered_by None body e = e
ordered_by (Some b) body e =
    if b.last == greatest_counter then e
    else record e {
      bound = Some (record b { last = b.last + 1 });
      orders = e.orders ++ record { association = b.association; counter = b.last + 1; body = body; skipped = false } ∷ [];
    }

unfoldable pub ordered : Body → EimState → EimState
ordered body e = ordered_by e.bound body e

-- An order waits where it wasn't given up and no result of it was received.
unfoldable pub waits : List PackageResult → Order → Bool
waits received o = not o.skipped && not (is_recorded o.association o.counter received)

-- The first order that waits.
unfoldable pub first_waiting : EimState → Option Order
first_waiting e = find (waits e.received) e.orders

-- The first order that waits is given up.
unfoldable pub skip_first : (Order → Bool) → List Order → List Order
skip_first test [] = []
skip_first test (o ∷ os) = if test o then record o { skipped = true } ∷ os else o ∷ skip_first test os

unfoldable pub skipped : EimState → EimState
skipped e = record e { orders = skip_first (waits e.received) e.orders }

abbrev pub counter_of : Option Order → Option ℕ
counter_of None = None
counter_of (Some o) = Some o.counter

unfoldable pub skip_end : EimState → Option ℕ
skip_end e = counter_of (first_waiting e)

-- The package of an order of this eIM for this card, with an empty signature.
abbrev pub package_of : List ℕ → List ℕ → Order → Signed
package_of id eid o = record {
  «package» = record { eim = id; eid = eid; association = o.association; counter = o.counter; body = o.body };
  signature = [];
}

-- The octets of the package of an order, or word that none waits.
abbrev pub answer_with : List ℕ → List ℕ → Option Order → ToIpa
answer_with id eid None = to_ipa.Nothing
answer_with id eid (Some o) = to_ipa.Package (signed (package_of id eid o))

-- What an eIM answers: a poll for its card by the first order that waits, a result of its own by an
-- acknowledgement of that result's number, and all else not at all.
unfoldable pub message_end : ToEim → EimState → MessageEnd
message_end (to_eim.Poll eid) e = answer.Reply (if same eid e.eid then answer_with e.id e.eid (first_waiting e) else to_ipa.Nothing)
message_end (to_eim.Result r) e = if same r.eim e.id then answer.Reply (to_ipa.Ack r.seq) else answer.Silent
message_end (to_eim.Refused f) e = answer.Silent

-- What a message changes: a result of its own is received, a refusal is kept.
unfoldable pub heard : ToEim → EimState → EimState
heard (to_eim.Poll eid) e = e
heard (to_eim.Result r) e = if same r.eim e.id then record e { received = r ∷ e.received } else e
heard (to_eim.Refused f) e = record e { refusals = f ∷ e.refusals }

-- The last refusal that was received.
abbrev pub last_of : List Refused → Option Refused
last_of [] = None
last_of (f ∷ older) = Some f
