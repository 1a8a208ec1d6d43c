-- What the fields of a store stand for.
use Rattle.std.specs.Prelude.{◌+◌, ◌≤◌, length}
use Rattle.small_card.specs.Cards.{Results}
use Rattle.result_store.specs.Stores.{IsStore}
use Rattle.result_store.specs.declared.store.Store.TheInside.{Inside}

-- The fields stand for the pending results and the next number.
abbrev pub results_of : Inside → Results
results_of s = record { pending = s.pending.items; next = s.next }

-- The fields are a store, with memory for 8 results in all.
pub record IsKept (s : Inside) : Type 0 where
  pub store : IsStore (results_of s)
  pub memory : 8 ≤ length s.pending.items + s.pending.spare
