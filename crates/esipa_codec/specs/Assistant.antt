-- The assistant: what happened to it since it was made, the newest first. Whom it asked for a
-- package and how many probes failed are looked back for.
use Rattle.std.specs.Prelude.{ℕ, ◌%◌, List, [], ◌∷◌, map, filter, length, ◌==◌, Bool, true, false, if◌then◌else◌, Option, Some, None}
use Rattle.small_card.specs.Lists.{before_first}
use Rattle.small_card.specs.declared.types.Answer.{Answer}
use Rattle.small_card.specs.declared.types.Answer.TheVariants as answer
use Rattle.small_card.specs.declared.types.PackageResult.{PackageResult}
use Rattle.small_card.specs.declared.types.Refused.{Refused}
use Rattle.esipa_codec.specs.declared.messages.ToEim.TheVariants as to_eim
use Rattle.esipa_codec.specs.declared.messages.ToIpa.{ToIpa}
use Rattle.esipa_codec.specs.declared.messages.ToIpa.TheVariants as to_ipa
use Rattle.esipa_codec.specs.declared.messages.Post.{Post}
use Rattle.esipa_codec.specs.declared.ends.Act.{Act}
use Rattle.esipa_codec.specs.declared.ends.Act.TheVariants as act

-- A poll of an eIM for a card, the wish for results, a message with its sender and the verdict on a
-- package, a probe that passed or failed, an answer of the card, a restart.
pub data IpaEvent : Type 0 where
  poll : List ℕ → List ℕ → IpaEvent
  push : IpaEvent
  message : List ℕ → ToIpa → Bool → IpaEvent
  probe : Bool → IpaEvent
  answered : Answer → IpaEvent
  restart : IpaEvent

unfoldable pub is_failed_probe : IpaEvent → Bool
is_failed_probe (probe false) = true
is_failed_probe e = false

-- A package that was taken, a passed probe and a restart end a row of failed probes.
unfoldable pub ends_failures : IpaEvent → Bool
ends_failures (probe true) = true
ends_failures (answered (answer.Loaded r)) = true
ends_failures restart = true
ends_failures e = false

-- How many probes failed since the last package that was taken, passed probe or restart.
unfoldable pub failures : List IpaEvent → ℕ
failures es = length (filter is_failed_probe (before_first ends_failures es))

-- Every third failed probe counts anew.
unfoldable pub strikes : List IpaEvent → ℕ
strikes es = failures es % 3

-- The eIM whose package is on its way to the card: the sender of the last one, unless the card
-- answered a load since, or the assistant was restarted.
unfoldable pub asked : List IpaEvent → Option (List ℕ)
asked [] = None
asked (message from (to_ipa.Package bytes) good ∷ es) = Some from
asked (answered (answer.Loaded r) ∷ es) = None
asked (answered (answer.LoadRefused f) ∷ es) = None
asked (restart ∷ es) = None
asked (e ∷ es) = asked es

-- A pending result goes to its eIM.
abbrev pub post_of : PackageResult → Post
post_of r = record { to = r.eim; message = to_eim.Result r }

abbrev pub refusal_to : Option (List ℕ) → Refused → Act
refusal_to None f = act.Rest
refusal_to (Some id) f = act.Send (record { to = id; message = to_eim.Refused f } ∷ [])

abbrev pub results_to : List PackageResult → Act
results_to [] = act.Rest
results_to (r ∷ rs) = act.Send (map post_of (r ∷ rs))

abbrev pub answer_act : List IpaEvent → Answer → Act
answer_act es (answer.LoadRefused f) = refusal_to (asked es) f
answer_act es (answer.Results rs) = results_to rs
answer_act es a = act.Rest

-- What the assistant does as an event comes, after these events.
unfoldable pub act_of : List IpaEvent → IpaEvent → Act
act_of es (poll to eid) = act.Send (record { to = to; message = to_eim.Poll eid } ∷ [])
act_of es push = act.Ask
act_of es (message from (to_ipa.Package bytes) good) = act.Load good bytes
act_of es (message from to_ipa.Nothing good) = act.Rest
act_of es (message from (to_ipa.Ack seq) good) = act.Remove seq
act_of es (probe true) = act.Rest
act_of es (probe false) = if failures (probe false ∷ es) % 3 == 0 then act.Rollback else act.Rest
act_of es (answered a) = answer_act es a
act_of es restart = act.Rest
