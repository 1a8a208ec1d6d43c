-- What the card replies to a command, and the history after it.
use Rattle.std.specs.Prelude.{ℕ, ◌==◌, List, [], ◌∷◌, map, not, Option, Some, None, Result, Ok, Err, if◌then◌else◌}
use Rattle.small_card.specs.Cards.{EimList}
use Rattle.small_card.specs.Histories.{History, card_of, former_of, with_unit}
use Rattle.small_card.specs.EimOperations.{line_of, is_empty_list, last_association}
use Rattle.small_card.specs.Packages.{result_of}
use Rattle.small_card.specs.Units.{CardUnit, initial, load, rollback, remove, is_pending}
use Rattle.small_card.specs.declared.types.Answer.{Answer}
use Rattle.small_card.specs.declared.types.Answer.TheVariants as answer
use Rattle.small_card.specs.declared.types.Armed.{Armed}
use Rattle.small_card.specs.declared.types.Command.{Command}
use Rattle.small_card.specs.declared.types.Command.TheVariants as command
use Rattle.small_card.specs.declared.types.Package.{Package}
use Rattle.small_card.specs.declared.types.Refused.{Refused}
use Rattle.package_codec.specs.Checks.{check}

-- A package that passes the checks is answered by its result, the new last one that is pending.
abbrev pub load_reply : History → Result Package Refused → Answer
load_reply h (Ok p) = answer.Loaded (result_of (card_of h) p)
load_reply h (Err r) = answer.LoadRefused r

-- A rollback is permitted where there is a former profile, and gets the next sequence number.
abbrev pub rollback_reply : History → Option Armed → Answer
rollback_reply h (Some armed) = answer.RolledBack (card_of h).results.next
rollback_reply h None = answer.NotPermitted

-- The first eIM is refused where the card has one, or has given out its last association.
abbrev pub initial_reply : EimList → Answer
initial_reply ms =
    if not (is_empty_list ms.entries) then answer.InitialRefused 1
    else if ms.next == last_association then answer.InitialRefused 2
    else answer.Associated ms.next

-- What the card of a history replies to a command.
unfoldable pub reply : History → Command → Answer
reply h (command.Personalise eid profiles) = answer.AlreadyPersonal
reply h (command.Load good bytes) = load_reply h (check h good bytes)
reply h command.Rollback = rollback_reply h (former_of h)
reply h (command.Remove seq) = if is_pending seq (card_of h).results.pending then answer.Removed else answer.Absent
reply h command.Results = answer.Results (card_of h).results.pending
reply h command.Eims = answer.Eims (map line_of (card_of h).eims.entries)
reply h (command.Initial id address key) = initial_reply (card_of h).eims

-- The unit of a load: that of the package, unless it is refused.
abbrev pub unit_of_load : Result Package Refused → Option CardUnit
unit_of_load (Ok p) = Some (load p)
unit_of_load (Err r) = None

-- The unit of a rollback, where there is a former profile.
abbrev pub unit_of_rollback : Option Armed → Option CardUnit
unit_of_rollback (Some armed) = Some rollback
unit_of_rollback None = None

-- The unit of a first eIM, unless it is refused.
abbrev pub unit_of_initial : EimList → List ℕ → List ℕ → List ℕ → Option CardUnit
unit_of_initial ms id address key =
    if not (is_empty_list ms.entries) then None
    else if ms.next == last_association then None
    else Some (initial id address key)

-- The unit of a command, none where it is refused or only lists.
unfoldable pub unit_of : History → Command → Option CardUnit
unit_of h (command.Personalise eid profiles) = None
unit_of h (command.Load good bytes) = unit_of_load (check h good bytes)
unit_of h command.Rollback = unit_of_rollback (former_of h)
unit_of h (command.Remove seq) = if is_pending seq (card_of h).results.pending then Some (remove seq) else None
unit_of h command.Results = None
unit_of h command.Eims = None
unit_of h (command.Initial id address key) = unit_of_initial (card_of h).eims id address key

-- The history with this unit, if any.
abbrev pub grown : Option CardUnit → History → History
grown None h = h
grown (Some u) h = with_unit h u

-- The history after a command: with its unit, if any.
unfoldable pub after : History → Command → History
after h c = grown (unit_of h c) h

-- The history after these commands, the first of them first.
unfoldable pub after_all : History → List Command → History
after_all h [] = h
after_all h (c ∷ cs) = after_all (after h c) cs
