-- Orders, and the facts by which they are found.
use Rattle.std.specs.Prelude.{◌≡◌, ◌≤◌, ℕ, ◌==◌, ◌&&◌, not, false, List, length, map, filter, take}
use Rattle.std.specs.Option.{unwrap_or}
use Rattle.std.specs.Ordering.{nat_cmp}
use Rattle.std.specs.BTreeMap.{BTreeMap, get}
use Rattle.small_card.specs.Lists.{Every, greatest}
use Rattle.esipa_codec.specs.Records.{Key}
use Rattle.eim_queue.specs.Places.{ArePlaces}
use Rattle.eim_queue.specs.declared.orders.Order.{Order}

-- The association and counter of the package of an order.
abbrev pub order_key : Order → Key
order_key o = (o.signed.«package».association, o.signed.«package».counter)

-- The counters of the packages of an association.
unfoldable pub used_counters : ℕ → List Order → List ℕ
used_counters association orders =
    map (λ o. o.signed.«package».counter) (filter (λ o. o.signed.«package».association == association) orders)

-- An order whose result was heard of doesn't wait.
abbrev pub settled : ℕ → ℕ → Order → Order
settled association counter o = record o {
  waits = o.waits && not (association == o.signed.«package».association && counter == o.signed.«package».counter);
}

-- Each order stands at its place, which no other order has; the greatest counter of each
-- association is kept; no order before the first place to look at waits.
pub record AreOrders (orders : List Order) (first : ℕ) (kept : BTreeMap Key ℕ) (counters : BTreeMap ℕ ℕ) : Type 0 where
  pub places : ArePlaces kept (map order_key orders)
  pub used : (association : ℕ) → unwrap_or (get nat_cmp counters association) 0 ≡ greatest (used_counters association orders)
  pub inside : first ≤ length orders
  pub passed : Every (λ o. o.waits ≡ false) (take first orders)
