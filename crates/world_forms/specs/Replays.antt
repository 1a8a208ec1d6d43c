-- A replay of a schedule: what was sent, the run that it is, and what the bench and the modems keep of it.
use Rattle.std.specs.Prelude.{◌≡◌, ◌≢◌, ◌<◌, ◌⊎◌, ℕ, false, List, [], ◌∷◌, ◌++◌, Some, None, Result, Ok, Err}
use Rattle.iot_bytes.specs.Causes.{Rose}
use Rattle.chip_port.specs.Rules.{IfTold, Untouched}
use Rattle.chip_port.specs.Seen.{Seen, Tally, no_plan}
use Rattle.iot_schedule.specs.Devices.{device_at}
use Rattle.iot_schedule.specs.Steps.{step_at}
use Rattle.iot_schedule.specs.declared.types.Device.{Device}
use Rattle.iot_schedule.specs.declared.types.Line.{Line}
use Rattle.line_loop.specs.Runs.{Ended}
use Rattle.line_loop.specs.Status.{exit_status}
use Rattle.line_loop.specs.declared.halt.EndStop.{EndStop}
use Rattle.line_loop.specs.declared.halt.EndStop.TheVariants as ending
use Rattle.line_loop.specs.declared.halt.LineStop.{LineStop}
use Rattle.line_loop.specs.declared.halt.LineStop.TheVariants.{ChipFault, Malformed, Limit, Unrecognised, NoMemory}
use Rattle.line_loop.specs.declared.halt.RunEnd.{RunEnd}
use Rattle.modem_bank.specs.Modems.{Seen as ModemSeen}
use Rattle.package_codec.specs.Replies.{unit_of}
use Rattle.run_loop.specs.Edges.{Edge}
use Rattle.schedule_forms.specs.Grammar.{AreInGrammar}
use Rattle.small_card.specs.declared.types.Command.{Command}
use Rattle.small_world.specs.Lines.{acted}
use Rattle.small_world.specs.Octets.{most_octets_sent, octets_sent}
use Rattle.small_world.specs.Runs.{MayTurn, Turn, given, world_after}
use Rattle.small_world.specs.Stepping.{commanded}
use Rattle.small_world.specs.Stretches.{fates, is_far}
use Rattle.world_card.specs.Counts.{answered_fate, short_fate}
use Rattle.world_card.specs.Starts.{IsUnstarted}
use Rattle.world_forms.specs.Courses.{HasRun, IsCalm, start_of, turns_of}
use Rattle.world_forms.specs.Keeping.{IsKept}

-- The same counts.
abbrev pub no_change : Tally → Tally
no_change t = t

-- No line was handled: the bench and the modems are as they were.
pub record IsUnbegun (handed_in : List ModemSeen) (s t : Seen) (modems : List ModemSeen) (ls : List (List ℕ)) (text : List ℕ) : Type 0 where
  pub none : ls ≡ []
  pub silent : text ≡ []
  pub bench : Untouched no_change s t
  pub same : modems ≡ handed_in

-- These lines were handled, and this text is the trace of their run; the bench holds it, the modems are those of its
-- last world, and so is the plan. Where no call of the bench failed, the lines alone make the run.
pub record IsReplayed (handed_in : List ModemSeen) (s t : Seen) (modems : List ModemSeen) (ls : List (List ℕ)) (text : List ℕ) : Type 0 where
  pub has : HasRun handed_in ls text
  pub kept : IsKept s t (start_of has) (turns_of has) has.world (fates (start_of has) (turns_of has))
  pub plan : t.tally.plan ≡ has.world.plan
  pub same : modems ≡ has.world.modems
  pub calm : ¬ Rose s.faults t.faults → IsCalm (start_of has) (turns_of has)

-- These lines are in the grammar; where the bench tells its content, a run was made of them, if there is one.
pub record Replays (handed_in : List ModemSeen) (s t : Seen) (modems : List ModemSeen) (ls : List (List ℕ)) (text : List ℕ) : Type 0 where
  pub fit : AreInGrammar ls
  pub told : IfTold s (IsUnbegun handed_in s t modems ls text ⊎ IsReplayed handed_in s t modems ls text)

-- A message passed the limit before anything reached the card: the bench holds the last world.
pub record IsUnsentBehind {handed_in : List ModemSeen} {ls : List (List ℕ)} {text : List ℕ} (has : HasRun handed_in ls text) (s t : Seen) : Type 0 where
  pub kept : IsKept s t (start_of has) (turns_of has) has.world (short_fate (is_far has.world.plan) ∷ fates (start_of has) (turns_of has))
  pub plan : t.tally.plan ≡ has.world.plan

-- It did after the card answered a command without a unit: one mark more stands, and no plan.
pub record IsUntoldBehind {handed_in : List ModemSeen} {ls : List (List ℕ)} {text : List ℕ} (has : HasRun handed_in ls text) (line : Line) (s t : Seen) : Type 0 where
  pub command : Command
  pub given_is : given has.world line ≡ Some command
  pub no_unit : unit_of has.world.history command ≡ None
  pub kept : IsKept s t (start_of has) (turns_of has) (commanded command false has.world) (answered_fate (is_far has.world.plan) ∷ fates (start_of has) (turns_of has))
  pub plan : t.tally.plan ≡ None

-- Behind a run, a message of this further line would pass the limit on the octets of all messages.
pub record IsOverBehind (handed_in : List ModemSeen) (s t : Seen) (modems : List ModemSeen) (ls : List (List ℕ)) (text l : List ℕ) : Type 0 where
  pub has : HasRun handed_in ls text
  pub line : Line
  pub spelled : step_at l ≡ Some line
  pub over : most_octets_sent < octets_sent (acted line false false has.world)
  pub bench : IsUnsentBehind has s t ⊎ IsUntoldBehind has line s t
  pub same : modems ≡ has.world.modems

-- Behind a run, memory ran out at a further line: the bench holds the last world, or that of one turn more.
pub record IsTurnedBehind {handed_in : List ModemSeen} {ls : List (List ℕ)} {text : List ℕ} (has : HasRun handed_in ls text) (l : List ℕ) (s t : Seen) : Type 0 where
  pub turn : Turn
  pub spelled : step_at l ≡ Some turn.line
  pub may : MayTurn has.world turn
  pub kept : IsKept s t (start_of has) (turn ∷ turns_of has) (world_after (start_of has) (turn ∷ turns_of has)) (fates (start_of has) (turn ∷ turns_of has))

pub record IsShortBehind (handed_in : List ModemSeen) (s t : Seen) (ls : List (List ℕ)) (text l : List ℕ) : Type 0 where
  pub has : HasRun handed_in ls text
  pub bench : IsKept s t (start_of has) (turns_of has) has.world (short_fate (is_far has.world.plan) ∷ fates (start_of has) (turns_of has)) ⊎ IsTurnedBehind has l s t

-- Behind a run this line spells nothing that happens.
pub record IsUnreadBehind (handed_in : List ModemSeen) (s t : Seen) (modems : List ModemSeen) (ls : List (List ℕ)) (text l : List ℕ) : Type 0 where
  pub replayed : IsReplayed handed_in s t modems ls text
  pub unread : step_at l ≡ None

-- The first line isn't handled: a call of the chip failed while the card was personalised, or the line spells no
-- device, or memory was wanting.
pub record IsFirst (handed_in modems : List ModemSeen) (ls : List (List ℕ)) (text : List ℕ) : Type 0 where
  pub none : ls ≡ []
  pub silent : text ≡ []
  pub same : modems ≡ handed_in

pub record IsUnmade (s t : Seen) (l : List ℕ) : Type 0 where
  pub device : Device
  pub spelled : device_at l ≡ Some device
  pub bench : IsUnstarted s t

-- Why a further line isn't handled, and what the bench and the modems then keep.
abbrev pub Stops : List ModemSeen → Seen → Seen → List ModemSeen → List (List ℕ) → List ℕ → List ℕ → LineStop → Type 0
Stops handed_in s t modems ls text l ChipFault = IsFirst handed_in modems ls text × IsUnmade s t l
Stops handed_in s t modems ls text l Malformed =
    (IsFirst handed_in modems ls text × (device_at l ≡ None) × Untouched no_change s t) ⊎ IsUnreadBehind handed_in s t modems ls text l
Stops handed_in s t modems ls text l Limit = IsOverBehind handed_in s t modems ls text l
Stops handed_in s t modems ls text l Unrecognised = ⊥
Stops handed_in s t modems ls text l NoMemory =
    (IsFirst handed_in modems ls text × (Untouched no_change s t ⊎ Untouched no_plan s t)) ⊎ IsShortBehind handed_in s t ls text l

-- Also where the content isn't told, a line is malformed exactly where it isn't in the grammar, and a fault of the chip
-- comes only at the first line, and where the count of faults rose.
pub record IsRefused (s t : Seen) (ls : List (List ℕ)) (l : List ℕ) (stop : LineStop) : Type 0 where
  pub fit : AreInGrammar ls
  pub unfit : stop ≡ Malformed → ¬ AreInGrammar (ls ++ l ∷ [])
  pub fits : stop ≢ Malformed → stop ≢ NoMemory → AreInGrammar (ls ++ l ∷ [])
  pub cause : stop ≡ ChipFault → (ls ≡ []) × Rose s.faults t.faults

pub record StopsReplay (handed_in : List ModemSeen) (s t : Seen) (modems : List ModemSeen) (ls : List (List ℕ)) (text l : List ℕ) (stop : LineStop) : Type 0 where
  pub refused : IsRefused s t ls l stop
  pub told : IfTold s (Stops handed_in s t modems ls text l stop)

-- Nothing is sent behind the texts of lines; a first line has to be there.
abbrev pub EndsReplay : List (List ℕ) → List ℕ → Result (List ℕ) EndStop → Type 0
EndsReplay ls text (Ok closing) = (ls ≢ []) × (closing ≡ [])
EndsReplay ls text (Err ending.Missing) = ls ≡ []
EndsReplay ls text (Err ending.NoMemory) = ⊥

-- A replay, by its status.
pub record Replayed (handed_in : List ModemSeen) (status : ℕ) (old new : Edge) (s t : Seen) (modems : List ModemSeen) : Type 0 where
  pub end : RunEnd
  pub says : status ≡ exit_status end.halt end.closing
  pub ended : Ended (Replays handed_in s t modems) (StopsReplay handed_in s t modems) EndsReplay old new end
