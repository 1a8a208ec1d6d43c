-- The operations on eIMs, row by row; the first row that applies counts.
use Rattle.std.specs.Prelude.{ℕ, ◌+◌, ◌==◌, Bool, true, false, not, unwrap_or, List, [], ◌∷◌, ◌++◌, map, length, nat_le, if◌then◌else◌, Option}
use Rattle.std.specs.List.{list_any}
use Rattle.small_card.specs.Lists.{same, without}
use Rattle.small_card.specs.Cards.{EimList}
use Rattle.small_card.specs.declared.types.EimEntry.{EimEntry}
use Rattle.small_card.specs.declared.types.EimLine.{EimLine}
use Rattle.small_card.specs.declared.types.Eco.{Eco}
use Rattle.small_card.specs.declared.types.Eco.TheVariants as eco
use Rattle.small_card.specs.declared.types.Item.{Item}
use Rattle.small_card.specs.declared.types.Item.TheVariants as item
use Rattle.small_card.specs.declared.limits.TheConstants.{MOST_EIMS, GREATEST_ASSOCIATION}

-- The entry has this identifier.
abbrev pub is_eim : List ℕ → EimEntry → Bool
is_eim id e = same id e.id

-- The eIM has an entry.
unfoldable pub has_eim : List ℕ → List EimEntry → Bool
has_eim id es = list_any (is_eim id) es

-- The eIM's entry leaves the list.
unfoldable pub without_eim : List ℕ → List EimEntry → List EimEntry
without_eim id es = without (is_eim id) es

-- A line of the eIM list is an entry without its key.
unfoldable pub line_of : EimEntry → EimLine
line_of e = record { id = e.id; address = e.address; association = e.association; counter = e.counter }

-- The eIM's entry gets the named fields; its counter and its association stay.
abbrev pub with_fields : List ℕ → Option (List ℕ) → Option (List ℕ) → EimEntry → EimEntry
with_fields id address key e = record e {
  address = if is_eim id e then unwrap_or address e.address else e.address;
  key = if is_eim id e then unwrap_or key e.key else e.key;
}

-- In the list, the eIM's entry gets the named fields.
unfoldable pub updated : List ℕ → Option (List ℕ) → Option (List ℕ) → List EimEntry → List EimEntry
updated id address key es = map (with_fields id address key) es

-- The eIM's entry gets the counter.
abbrev pub counted : List ℕ → ℕ → EimEntry → EimEntry
counted id counter e = record e { counter = if is_eim id e then counter else e.counter }

-- In the list, the eIM's entry gets the counter.
unfoldable pub with_counter : List ℕ → ℕ → List EimEntry → List EimEntry
with_counter id counter es = map (counted id counter) es

-- The entry goes last, with counter 0 and the next association, which rises.
unfoldable pub added : List ℕ → List ℕ → List ℕ → EimList → EimList
added id address key ms = record {
  entries = ms.entries ++ record { id = id; address = address; key = key; counter = 0; association = ms.next } ∷ [];
  next = ms.next + 1;
}

-- Where this association is the next, the numbers are used up.
unfoldable pub last_association : ℕ
last_association = GREATEST_ASSOCIATION

-- No entry is left.
unfoldable pub is_empty_list : List EimEntry → Bool
is_empty_list [] = true
is_empty_list (e ∷ es) = false

-- What an operation leaves, and its item.
unfoldable pub do_eco : EimList → Eco → EimList × Item
do_eco ms (eco.Add id address key) =
    if has_eim id ms.entries then (ms, item.Add 1 0)
    else if nat_le MOST_EIMS (length ms.entries) then (ms, item.Add 2 0)
    else if ms.next == last_association then (ms, item.Add 3 0)
    else (added id address key ms, item.Add 0 ms.next)
do_eco ms (eco.Update id address key) =
    if not (has_eim id ms.entries) then (ms, item.Update 1)
    else (record ms { entries = updated id address key ms.entries }, item.Update 0)
do_eco ms (eco.Delete id) =
    if not (has_eim id ms.entries) then (ms, item.Dropped 1)
    else (record ms { entries = without_eim id ms.entries }, item.Dropped (if is_empty_list (without_eim id ms.entries) then 2 else 0))
do_eco ms eco.List = (ms, item.Eims (map line_of ms.entries))
