-- What happens to an eIM, as a list of events, the newest first.
use Rattle.std.specs.Prelude.{ℕ, List, [], ◌∷◌}
use Rattle.small_card.specs.declared.types.Body.{Body}
use Rattle.esipa_codec.specs.Eims.{EimState, new_eim, bound_to, ordered, skipped, heard}
use Rattle.esipa_codec.specs.declared.messages.ToEim.{ToEim}

pub data EimEvent : Type 0 where
  bind : ℕ → ℕ → EimEvent
  order : Body → EimEvent
  skip : EimEvent
  message : ToEim → EimEvent

-- An eIM after one more event.
unfoldable pub after_event : EimEvent → EimState → EimState
after_event (bind association last) e = bound_to association last e
after_event (order body) e = ordered body e
after_event skip e = skipped e
after_event (message m) e = heard m e

-- A new eIM after these events.
unfoldable pub after_events : List ℕ → List ℕ → List EimEvent → EimState
after_events id eid [] = new_eim id eid
after_events id eid (x ∷ xs) = after_event x (after_events id eid xs)
