-- Runs of the small world: turns, each a line with the two choices that it leaves.
use Rattle.std.specs.Prelude.{ℕ, ◌≡◌, Bool, true, false, ◌||◌, ◌&&◌, List, [], ◌∷◌, map, reverse, IsSome, Option, Some, None, is_some}
use Rattle.chip_port.specs.Seen.{is_due}
use Rattle.small_card.specs.Lists.{Every}
use Rattle.small_card.specs.declared.types.Command.{Command}
use Rattle.small_card.specs.declared.types.Command.TheVariants as command
use Rattle.esipa_codec.specs.Assistant.{IpaEvent, push, message, probe, act_of}
use Rattle.modem_bank.specs.Modems.{Seen}
use Rattle.iot_schedule.specs.Ranges.{IsDevice, IsStep}
use Rattle.iot_schedule.specs.declared.types.Device.{Device}
use Rattle.iot_schedule.specs.declared.types.Line.{Line}
use Rattle.iot_schedule.specs.declared.types.Line.TheVariants as line
use Rattle.small_world.specs.Worlds.{SmallWorld, start_world}
use Rattle.small_world.specs.Network.{picked}
use Rattle.small_world.specs.Stepping.{attempt}
use Rattle.small_world.specs.Acting.{command_of}
use Rattle.small_world.specs.Lines.{acted, attended}
use Rattle.small_world.specs.Printing.{printed}
use Rattle.small_world.specs.declared.reply.Reply.{Reply}

-- The command that the assistant gives for an event.
abbrev pub ordered_by : SmallWorld → IpaEvent → Option Command
ordered_by w e = command_of (act_of w.assistant e)

-- The command that a message to the assistant brings.
abbrev pub brought : SmallWorld → Bool → Option Reply → Option Command
brought w good None = None
brought w good (Some r) = ordered_by w (message r.from r.message good)

-- The command that a line gives to the card, if any.
unfoldable pub given : SmallWorld → Line → Option Command
given w (line.Eim id) = None
given w (line.Initial id address key) = Some (command.Initial id address key)
given w (line.Bind id association last) = None
given w (line.Order id body) = None
given w (line.Skip id) = None
given w (line.Poll id) = None
given w (line.Up pick) = None
given w (line.Down pick good) = brought w good (picked pick w.to_ipa)
given w (line.Load good bytes) = Some (command.Load good bytes)
given w line.Push = ordered_by w push
given w (line.Probe passed) = ordered_by w (probe passed)
given w line.Rollback = Some command.Rollback
given w line.Restart = None
given w (line.Cut calls tear) = None
given w line.Boot = None
given w line.Show = None
given w (line.Kept id) = None
given w (line.Detach at) = None
given w line.Modems = None

-- The line is a boot.
abbrev pub is_boot : Line → Bool
is_boot line.Boot = true
is_boot l = false

-- The line steps the card: it gives a command to a lit one, or it is a boot.
unfoldable pub steps_card : SmallWorld → Line → Bool
steps_card w l = (w.lit && is_some (given w l)) || is_boot l

-- A line, whether its step was lost, and whether a boot took the attempt of the newest mark.
pub record Turn : Type 0 where
  pub line : Line
  pub lost : Bool
  pub taken : Bool

-- A line whose step, if any, is answered; a boot doesn't take what was in progress.
abbrev pub kept_on : Line → Turn
kept_on l = record { line = l; lost = false; taken = false }

-- A boot takes an attempt that there is, of a dark card, unless it is lost itself.
pub record MayTake (w : SmallWorld) (t : Turn) : Type 0 where
  pub boot : is_boot t.line ≡ true
  pub dark : w.lit ≡ false
  pub there : IsSome (attempt w.marks)
  pub answered : t.lost ≡ false

-- The choices that a line leaves: only a step of the card is lost, and under a plan of no calls it is.
pub record MayTurn (w : SmallWorld) (t : Turn) : Type 0 where
  pub lost : t.lost ≡ true → steps_card w t.line ≡ true
  pub due : is_due w.plan ≡ true → steps_card w t.line ≡ true → t.lost ≡ true
  pub taken : t.taken ≡ true → MayTake w t

-- The world after a turn.
unfoldable pub after_turn : SmallWorld → Turn → SmallWorld
after_turn w t = attended (acted t.line t.lost t.taken w)

-- The world after these turns, the newest first.
unfoldable pub world_after : SmallWorld → List Turn → SmallWorld
world_after start [] = start
world_after start (t ∷ ts) = after_turn (world_after start ts) t

-- Each turn's choices are ones that its line leaves.
unfoldable pub IsRun : SmallWorld → List Turn → Type 0
IsRun start [] = Unit {0}
IsRun start (t ∷ ts) = MayTurn (world_after start ts) t × IsRun start ts

-- The texts of these turns, the newest first.
unfoldable pub texts_back : SmallWorld → List Turn → List (List ℕ)
texts_back start [] = []
texts_back start (t ∷ ts) = printed (world_after start ts) t.line t.lost ∷ texts_back start ts

-- Each line of these turns is one that can be read.
unfoldable pub AreSteps : List Turn → Type 0
AreSteps ts = Every (λ t. IsStep t.line) ts

-- A world that a run comes to: from a device in range, over lines that can be read.
pub record IsReached (w : SmallWorld) : Type 0 where
  pub device : Device
  pub handed_in : List Seen
  pub turns : List Turn
  pub fits : IsDevice device
  pub read : AreSteps turns
  pub comes : w ≡ world_after (start_world device handed_in) turns

-- These lines, in their order, print these texts and lead from one world to the other.
pub record IsRunOver (start : SmallWorld) (lines : List Line) (texts : List (List ℕ)) (end : SmallWorld) : Type 0 where
  pub turns : List Turn
  pub may : IsRun start turns
  pub lines_are : lines ≡ reverse (map (λ t. t.line) turns)
  pub texts_are : texts ≡ reverse (texts_back start turns)
  pub end_is : end ≡ world_after start turns
