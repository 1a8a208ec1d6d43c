-- What the fields of a manager table stand for.
use Rattle.std.specs.Prelude.{◌+◌, ◌≤◌, length}
use Rattle.small_card.specs.Cards.{EimList}
use Rattle.eim_table.specs.Entries.{IsEims}
use Rattle.eim_table.specs.declared.table.Eims.TheInside.{Inside}

-- The fields stand for the entries and the next association.
abbrev pub eims_of : Inside → EimList
eims_of t = record { entries = t.entries.items; next = t.next }

-- The fields are a manager table, with memory for 8 entries in all.
pub record IsKept (t : Inside) : Type 0 where
  pub eims : IsEims (eims_of t)
  pub room : 8 ≤ length t.entries.items + t.entries.spare
