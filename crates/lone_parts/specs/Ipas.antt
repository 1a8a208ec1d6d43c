-- What frames make of an assistant, and what it does for each.
use Rattle.std.specs.Prelude.{◌≡◌, ℕ, List, ◌∷◌, Option, Some, IfSome, option_map, Result, Ok, Err}
use Rattle.sgp_values.specs.Eids.{IsEid}
use Rattle.sgp_values.specs.Ranges.{IsEimId}
use Rattle.small_card.specs.declared.types.Command.TheVariants as command
use Rattle.esipa_codec.specs.Assistant.{IpaEvent, poll, push, message, probe, answered, restart, act_of}
use Rattle.esipa_codec.specs.declared.ends.Act.{Act}
use Rattle.esipa_codec.specs.declared.ends.Act.TheVariants as act
use Rattle.ipa_core.specs.Assistants.{IsIpa}
use Rattle.ipa_core.specs.declared.assistant.Ipa.{Ipa}
use Rattle.part_records.specs.Reading.{ipa_input_at}
use Rattle.part_records.specs.Spelling.{deeds}
use Rattle.part_records.specs.declared.records.IpaInput.{IpaInput}
use Rattle.part_records.specs.declared.records.IpaInput.TheVariants as ipa_in
use Rattle.part_records.specs.declared.records.Deeds.{Deeds}
use Rattle.part_records.specs.declared.records.Deeds.TheVariants as deed
use Rattle.run_loop.specs.declared.halt.PartStop.{PartStop}
use Rattle.lone_parts.specs.Folds.{AreFolded, StopsAt, HasNone}
use Rattle.lone_parts.specs.declared.ipa_part.IpaPart.TheInside.{Inside}

-- the event that an input is; a poll is for the card with this EID
unfoldable pub event_of : List ℕ → IpaInput → IpaEvent
event_of eid (ipa_in.Message from good m) = message from m good
event_of eid (ipa_in.Probe passed) = probe passed
event_of eid ipa_in.Restart = restart
event_of eid ipa_in.Push = push
event_of eid (ipa_in.Answered a) = answered a
event_of eid (ipa_in.Poll id) = poll id eid

-- the record of what an assistant does; it asks for results by the command Results
abbrev pub deeds_of : Act → Deeds
deeds_of (act.Load good bytes) = deed.ToCard (command.Load good bytes)
deeds_of (act.Remove seq) = deed.ToCard (command.Remove seq)
deeds_of act.Rollback = deed.ToCard command.Rollback
deeds_of act.Ask = deed.ToCard command.Results
deeds_of (act.Send posts) = deed.ToEims posts
deeds_of act.Rest = deed.Nothing

-- what a frame makes of all that happened to an assistant, the newest first, and what it does for the frame
unfoldable pub ipa_rule : List ℕ → List IpaEvent → List ℕ → Option (List IpaEvent × List ℕ)
ipa_rule eid events f = option_map (λ x. (event_of eid x ∷ events, deeds (deeds_of (act_of events (event_of eid x))))) (ipa_input_at f)

-- an assistant alone, with the EID of the card for which it polls
pub record Alone : Type 0 where
  pub ipa : Ipa
  pub eid : List ℕ

abbrev pub alone : Inside → Alone
alone p = record { ipa = p.ipa; eid = p.eid }

-- an assistant stands for something that happened to it
abbrev pub IsSome : Ipa → Type 0
IsSome ipa = (events : List IpaEvent) × IsIpa ipa events

-- whom it asked is in range
pub record IsFit (ipa : Ipa) : Type 0 where
  pub some : IsSome ipa
  pub asked : IfSome ipa.asked IsEimId

pub record IsSound (p : Inside) : Type 0 where
  pub ipa : IsFit p.ipa
  pub eid : IsEid p.eid

-- an assistant that did this for an event
pub record Did (events : List IpaEvent) (x : IpaEvent) (ipa : Ipa) (did : Act) : Type 0 where
  pub act_is : did ≡ act_of events x
  pub stands : IsIpa ipa (x ∷ events)

-- from the first assistant on these frames led to the second one, with this text
pub record Led (eid : List ℕ) (events : List IpaEvent) (ipa : Ipa) (fs : List (List ℕ)) (text : List ℕ) : Type 0 where
  pub answered : AreFolded (ipa_rule eid) events fs text
  pub stands : IsIpa ipa answered.state

-- the EID stays
abbrev pub LedTo : Alone → Alone → List (List ℕ) → List ℕ → Type 0
LedTo first now fs text = (now.eid ≡ first.eid) × ((events : List IpaEvent) → IsIpa first.ipa events → Led first.eid events now.ipa fs text)

abbrev pub StoppedAt : Alone → List (List ℕ) → List ℕ → List ℕ → PartStop → Type 0
StoppedAt first fs text f stop = (events : List IpaEvent) → IsIpa first.ipa events → StopsAt (ipa_rule first.eid) events fs text f stop

-- what an assistant does for a frame, or why nothing
abbrev pub Replied : List ℕ → List IpaEvent → List ℕ → Ipa → Result Deeds PartStop → Type 0
Replied eid events f ipa (Ok did) = (s : List IpaEvent) × (ipa_rule eid events f ≡ Some (s, deeds did)) × IsIpa ipa s
Replied eid events f ipa (Err stop) = HasNone (ipa_rule eid) events f stop
