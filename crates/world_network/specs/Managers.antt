-- The eIMs in code, and which eIMs they stand for.
use Rattle.std.specs.Prelude.{◌≡◌, ℕ, Bool, List, Option, Some, None}
use Rattle.small_card.specs.Lists.{same}
use Rattle.esipa_codec.specs.Eims.{EimState}
use Rattle.esipa_codec.specs.declared.ends.OrderEnd.{OrderEnd}
use Rattle.eim_queue.specs.Queues.{IsEim, IfOrdered}
use Rattle.world_network.specs.Pairs.{Pairwise}
use Rattle.world_network.specs.declared.managers.Manager.{Manager}

-- An eIM in code stands for an eIM of its identifier.
pub record IsManager (m : Manager) (e : EimState) : Type 0 where
  pub id_is : m.id ≡ e.id
  pub queue_is : IsEim m.queue e

-- They stand for these eIMs, in their order.
abbrev pub AreManagers : List Manager → List EimState → Type 0
AreManagers ms es = Pairwise IsManager ms es

-- The eIM in code has this identifier.
abbrev pub has_id : List ℕ → Manager → Bool
has_id id m = same id m.id

-- unless memory was wanting
abbrev pub IfBooked : Option OrderEnd → Type 0 → Type 0
IfBooked None P = P
IfBooked (Some end) P = IfOrdered end P
