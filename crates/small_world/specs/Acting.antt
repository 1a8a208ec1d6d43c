-- The assistant: it hears an event, and its act is done. The card's answer to a command of the
-- assistant comes back to it, unless the step was lost or the card is dark.
use Rattle.std.specs.Prelude.{Bool, not, ◌&&◌, List, [], ◌∷◌, ◌++◌, if◌then◌else◌, Option, Some, None}
use Rattle.small_card.specs.declared.types.Answer.{Answer}
use Rattle.small_card.specs.declared.types.Command.{Command}
use Rattle.small_card.specs.declared.types.Command.TheVariants as command
use Rattle.package_codec.specs.Replies.{reply}
use Rattle.esipa_codec.specs.Assistant.{IpaEvent, answered, act_of}
use Rattle.esipa_codec.specs.declared.ends.Act.{Act}
use Rattle.esipa_codec.specs.declared.ends.Act.TheVariants as act
use Rattle.esipa_codec.specs.declared.messages.Post.{Post}
use Rattle.small_world.specs.Worlds.{SmallWorld}
use Rattle.small_world.specs.Stepping.{commanded}

-- The command that an act gives to the card, if any.
unfoldable pub command_of : Act → Option Command
command_of (act.Load good bytes) = Some (command.Load good bytes)
command_of (act.Remove seq) = Some (command.Remove seq)
command_of act.Rollback = Some command.Rollback
command_of act.Ask = Some command.Results
command_of (act.Send posts) = None
command_of act.Rest = None

-- The messages that an act sends.
unfoldable pub posts_of : Act → List Post
posts_of (act.Load good bytes) = []
posts_of (act.Remove seq) = []
posts_of act.Rollback = []
posts_of act.Ask = []
posts_of (act.Send posts) = posts
posts_of act.Rest = []

-- The assistant hears an event.
abbrev pub hearing : IpaEvent → SmallWorld → SmallWorld
hearing e w = record w { assistant = e ∷ w.assistant }

-- Messages to eIMs are sent, each behind all earlier ones.
abbrev pub sending : List Post → SmallWorld → SmallWorld
sending posts w = record w { to_eims = w.to_eims ++ posts }

-- The card's answer reaches the assistant, which may send messages for it.
unfoldable pub told_answer : Answer → SmallWorld → SmallWorld
told_answer a w = sending (posts_of (act_of w.assistant (answered a))) (hearing (answered a) w)

-- The command is answered: the card is lit, and the step isn't lost.
abbrev pub is_answered : Bool → SmallWorld → Bool
is_answered lost w = w.lit && not lost

-- The assistant gives the card a command.
unfoldable pub asked_card : Command → Bool → SmallWorld → SmallWorld
asked_card c lost w =
    if is_answered lost w then told_answer (reply w.history c) (commanded c lost w) else commanded c lost w

-- What an act does: its messages are sent, or its command goes to the card.
abbrev pub done : Option Command → List Post → Bool → SmallWorld → SmallWorld
done None posts lost w = sending posts w
done (Some c) posts lost w = asked_card c lost w

-- The assistant hears an event and acts on it.
unfoldable pub acts : IpaEvent → Bool → SmallWorld → SmallWorld
acts e lost w =
    done (command_of (act_of w.assistant e)) (posts_of (act_of w.assistant e)) lost (hearing e w)
