-- A line in which the assistant gives the card a command.
use Rattle.std.specs.Prelude.{◌≡◌, ℕ, Bool, true, false, List, ◌++◌, length, Some, Result, Ok, Err}
use Rattle.small_card.specs.declared.types.Command.{Command}
use Rattle.package_codec.specs.Replies.{reply}
use Rattle.esipa_codec.specs.Assistant.{IpaEvent}
use Rattle.esipa_codec.specs.declared.messages.Post.{Post}
use Rattle.iot_schedule.specs.declared.types.Line.{Line}
use Rattle.small_world.specs.Acting.{hearing, asked_card}
use Rattle.small_world.specs.Lines.{acted}
use Rattle.small_world.specs.Printing.{printed, replied, step_text}
use Rattle.small_world.specs.Runs.{given, is_boot}
use Rattle.small_world.specs.Stretches.{is_costly, is_cut}
use Rattle.small_world.specs.Texts.{also_sent}
use Rattle.small_world.specs.Worlds.{SmallWorld}
use Rattle.iot_world.specs.Asking.{sent_after}
use Rattle.iot_world.specs.declared.ends.Halt.{Halt}
use Rattle.iot_world.specs.declared.ends.Halt.TheVariants.{Limit, Foreign, NoMemory}

-- a line that gives this command, and nothing else
pub record Gives (w : SmallWorld) (l : Line) (c : Command) : Type 0 where
  pub is : given w l ≡ Some c
  pub no_boot : is_boot l ≡ false
  pub costs : is_costly l ≡ true
  pub no_cut : is_cut l ≡ false

-- the line has the assistant hear an event, for which it gives the card this command
pub record IsCarried (w : SmallWorld) (l : Line) (e : IpaEvent) (c : Command) : Type 0 where
  pub gives : Gives w l c
  pub does : (lost : Bool) → acted l lost false w ≡ asked_card c lost (hearing e w)

-- it prints what the card replies, and what is sent besides
abbrev pub PrintsAlso : SmallWorld → Line → IpaEvent → Command → Type 0
PrintsAlso w l e c = (lost : Bool) → printed w l lost ≡ step_text w lost (replied w c ++ also_sent (length w.to_eims) (sent_after (hearing e w) (reply w.history c)))

-- it prints what the card replies
abbrev pub PrintsReply : SmallWorld → Line → Command → Type 0
PrintsReply w l c = (lost : Bool) → printed w l lost ≡ step_text w lost (replied w c)

-- the places of what was sent besides were appended, unless memory ran out
abbrev pub SaysAlso : ℕ → ℕ → List ℕ → List ℕ → Result (Unit {0}) Halt → Type 0
SaysAlso first sent before out (Ok done) = (posts : List Post) → length posts ≡ sent → out ≡ before ++ also_sent first posts
SaysAlso first sent before out (Err Limit) = ⊥
SaysAlso first sent before out (Err Foreign) = ⊥
SaysAlso first sent before out (Err NoMemory) = Unit {0}
