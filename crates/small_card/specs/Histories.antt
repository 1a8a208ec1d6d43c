-- Histories: a start and the units since, the newest first. The card of a history, its former profile
-- and its counters are found by looking back.
use Rattle.std.specs.Prelude.{ℕ, ◌==◌, ◌&&◌, Bool, true, false, List, [], ◌∷◌, map, max, filter, if◌then◌else◌, Option, Some, None}
use Rattle.std.specs.List.{list_any, filter_map}
use Rattle.small_card.specs.Lists.{same, greatest}
use Rattle.small_card.specs.Cards.{SmallCard, FullCard}
use Rattle.small_card.specs.Packages.{armed_by}
use Rattle.small_card.specs.Units.{CardUnit, initial, load, rollback, remove, after_unit}
use Rattle.small_card.specs.declared.types.EimEntry.{EimEntry}
use Rattle.small_card.specs.declared.types.Package.{Package}
use Rattle.small_card.specs.declared.types.Armed.{Armed}

-- A unit, and the card just before it.
abbrev pub Past : Type 0
Past = CardUnit × SmallCard

-- The units after the last load, the newest first.
unfoldable pub since_load : List Past → List CardUnit
since_load [] = []
since_load ((load p, before) ∷ past) = []
since_load ((u, before) ∷ past) = u ∷ since_load past

-- The last load, and the card just before it.
unfoldable pub last_load : List Past → Option (SmallCard × Package)
last_load [] = None
last_load ((load p, before) ∷ past) = Some (before, p)
last_load ((u, before) ∷ past) = last_load past

-- A rollback, or a removal of the result with this number, ends a permitted rollback.
unfoldable pub ends : ℕ → CardUnit → Bool
ends seq rollback = true
ends seq (remove removed) = removed == seq
ends seq (initial id address key) = false
ends seq (load p) = false

-- A rollback stays permitted unless one of the later units ended it.
unfoldable pub unless_ended : List CardUnit → Option Armed → Option Armed
unless_ended later None = None
unless_ended later (Some a) = if list_any (ends a.seq) later then None else Some a

-- What the last load armed, or what the start had armed where there was no load.
unfoldable pub armed_last : FullCard → Option (SmallCard × Package) → Option Armed
armed_last start None = start.armed
armed_last start (Some l) = armed_by l.0 l.1

-- The permitted rollback, by looking back to the last load.
unfoldable pub former_in : FullCard → List Past → Option Armed
former_in start past = unless_ended (since_load past) (armed_last start (last_load past))

-- The card is the start with each unit applied in turn to the card just before it.
unfoldable pub card_in : FullCard → List Past → SmallCard
card_in start [] = start.card
card_in start ((u, before) ∷ past) = after_unit (record { card = before; armed = former_in start past }) u

-- Each unit with the card just before it.
unfoldable pub past_of : FullCard → List CardUnit → List Past
past_of start [] = []
past_of start (u ∷ us) = let past = past_of start us in (u, card_in start past) ∷ past

-- A history is a full card, its start, and a list of units, the newest first.
pub record History : Type 0 where
  pub start : FullCard
  pub units : List CardUnit

-- The card of a history.
unfoldable pub card_of : History → SmallCard
card_of h = card_in h.start (past_of h.start h.units)

-- The former profile of a history, with the number of the result that armed it.
unfoldable pub former_of : History → Option Armed
former_of h = former_in h.start (past_of h.start h.units)

-- The full card of a history is its card, with its former profile as what is armed.
unfoldable pub full_of : History → FullCard
full_of h = record { card = card_of h; armed = former_of h }

-- The history with one more unit.
unfoldable pub with_unit : History → CardUnit → History
with_unit h u = record h { units = u ∷ h.units }

-- The package of a load.
unfoldable pub as_load : CardUnit → Option Package
as_load (load p) = Some p
as_load u = None

-- The counters of the loads with this identifier and association, the newest first.
unfoldable pub load_counters : List ℕ → ℕ → List CardUnit → List ℕ
load_counters id association us =
    map (λ p. p.counter) (filter (λ p. same id p.eim && p.association == association) (filter_map as_load us))

-- The counters of the entries with this identifier and association.
unfoldable pub entry_counters : List ℕ → ℕ → List EimEntry → List ℕ
entry_counters id association es = map (λ e. e.counter) (filter (λ e. same id e.id && e.association == association) es)

-- The greatest of 0, the start's counter of this pair and the counters of all its loads.
unfoldable pub kept : History → List ℕ → ℕ → ℕ
kept h id association =
    max (greatest (entry_counters id association h.start.card.eims.entries)) (greatest (load_counters id association h.units))
