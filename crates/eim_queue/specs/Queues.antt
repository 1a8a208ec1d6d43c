-- What a queue in code keeps, and which eIM it stands for.
use Rattle.std.specs.Prelude.{◌≡◌, ◌≤◌, ℕ, List, length, map, IfSome, Option}
use Rattle.small_card.specs.Lists.{Every, greatest}
use Rattle.small_card.specs.Ranges.{IsSigned}
use Rattle.small_card.specs.declared.types.PackageResult.{PackageResult}
use Rattle.small_card.specs.declared.types.Refused.{Refused}
use Rattle.esipa_codec.specs.Eims.{EimState, Order as Ordered, last_of, package_of, waits, IsBinding}
use Rattle.esipa_codec.specs.declared.ends.Binding.{Binding}
use Rattle.esipa_codec.specs.declared.ends.OrderEnd.{OrderEnd}
use Rattle.esipa_codec.specs.declared.ends.OrderEnd.TheVariants.{Ordered as GotCounter, Unbound, CounterSpent, NoMemory as NoRoom}
use Rattle.esipa_codec.specs.declared.ends.MessageEnd.{MessageEnd}
use Rattle.esipa_codec.specs.declared.ends.MessageEnd.TheVariants.{Reply, Silent, NoMemory}
use Rattle.esipa_codec.specs.Ranges.{IsToIpa}
use Rattle.esipa_codec.specs.Spelling.{to_ipa}
use Rattle.eim_queue.specs.Orders.{used_counters}
use Rattle.eim_queue.specs.Records.{AreRecords}
use Rattle.eim_queue.specs.declared.orders.Order.{Order}
use Rattle.eim_queue.specs.declared.queue.Eim.TheInside.{Inside}

-- A queue keeps its orders as packages, and of the results the records alone.
pub record Queue : Type 0 where
  pub id : List ℕ
  pub eid : List ℕ
  pub bound : Option Binding
  pub orders : List Order
  pub records : List PackageResult
  pub refusal : Option Refused

abbrev pub queue_of : Inside → Queue
queue_of q = record { id = q.id; eid = q.eid; bound = q.bound; orders = q.orders; records = q.records; refusal = q.refusal }

-- The packages and what the queue is bound to are in range, and counters go on behind those of the
-- orders.
pub record IsQueue (q : Inside) : Type 0 where
  pub orders_fit : Every (λ o. IsSigned o.signed) q.orders
  pub bound_fits : IfSome q.bound IsBinding
  pub goes_on : IfSome q.bound (λ b. greatest (used_counters b.association q.orders) ≤ b.last)

-- The order as the queue keeps it: its package, and whether it waits.
abbrev pub kept_order : List ℕ → List ℕ → List PackageResult → Ordered → Order
kept_order id eid received o = record { signed = package_of id eid o; waits = waits received o }

-- A queue stands for an eIM that keeps all that it received.
pub record IsEim (q : Queue) (e : EimState) : Type 0 where
  pub id_is : q.id ≡ e.id
  pub eid_is : q.eid ≡ e.eid
  pub bound_is : q.bound ≡ e.bound
  pub orders_are : q.orders ≡ map (kept_order e.id e.eid e.received) e.orders
  pub records_are : AreRecords q.records e.received
  pub refusal_is : q.refusal ≡ last_of e.refusals

-- unless memory was wanting
abbrev pub IfOrdered : OrderEnd → Type 0 → Type 0
IfOrdered (GotCounter n) P = P
IfOrdered Unbound P = P
IfOrdered CounterSpent P = P
IfOrdered NoRoom P = Unit {0}

abbrev pub IfServed : MessageEnd → Type 0 → Type 0
IfServed (Reply m) P = P
IfServed Silent P = P
IfServed NoMemory P = Unit {0}

-- a message to the assistant, if there is one, is in range; it has at most 3,489 octets
abbrev pub IsSendable : MessageEnd → Type 0
IsSendable (Reply m) = IsToIpa m × (length (to_ipa m) ≤ 3489)
IsSendable Silent = Unit {0}
IsSendable NoMemory = Unit {0}
