-- A full card that keeps what is armed, one unit at a time.
use Rattle.std.specs.Prelude.{[], ◌∷◌, Option, None}
use Rattle.small_card.specs.Cards.{FullCard}
use Rattle.small_card.specs.Packages.{armed_by}
use Rattle.small_card.specs.Units.{CardUnit, initial, load, rollback, remove, after_unit}
use Rattle.small_card.specs.Histories.{unless_ended}
use Rattle.small_card.specs.declared.types.Armed.{Armed}

-- A load arms anew, a rollback ends it, and so does the removal of the armed result.
unfoldable pub armed_after : FullCard → CardUnit → Option Armed
armed_after f (initial id address key) = f.armed
armed_after f (load p) = armed_by f.card p
armed_after f rollback = None
armed_after f (remove seq) = unless_ended (remove seq ∷ []) f.armed

-- One step of a full card: what the unit makes of the card, and what is armed after it.
unfoldable pub step_full : FullCard → CardUnit → FullCard
step_full f u = record { card = after_unit f u; armed = armed_after f u }
