-- A demonstration: a generated schedule is replayed, and what its lines printed is counted.
use Rattle.std.specs.Prelude.{◌≡◌, ◌≤◌, ℕ, ◌+◌, Bool, true, List, ◌∷◌, ◌++◌, length, take, filter, codes, Option, Result, Ok, Err}
use Rattle.std.specs.Fmt.{decimal}
use Rattle.chip_port.specs.Rules.{IfTold}
use Rattle.chip_port.specs.Seen.{Seen}
use Rattle.iot_schedule.specs.Making.{made_line}
use Rattle.run_loop.specs.Sends.{Closes}
use Rattle.line_loop.specs.Sends.{stop_line}
use Rattle.line_loop.specs.Status.{exit_status, has_stop_line, line_status}
use Rattle.line_loop.specs.declared.halt.Halt.{Halt}
use Rattle.line_loop.specs.declared.halt.Halt.TheVariants.{Reading, Handling}
use Rattle.line_loop.specs.declared.halt.NoLine.TheVariants as reading
use Rattle.modem_bank.specs.Modems.{Seen as ModemSeen}
use Rattle.run_loop.specs.declared.halt.SendStop.{SendStop}
use Rattle.schedule_forms.specs.Schedules.{made_lines}
use Rattle.small_card.specs.Lists.{same}
use Rattle.small_world.specs.Printing.{device_printed}
use Rattle.world_forms.specs.Courses.{HasRun}
use Rattle.world_forms.specs.Replays.{IsReplayed, Stops}
use Rattle.world_forms.specs.declared.playing.Stopped.{Stopped}
use Rattle.world_forms.specs.declared.tally.Tally.{Tally}

-- A text begins with a word.
abbrev pub begins : List ℕ → List ℕ → Bool
begins word text = same word (take (length word) text)

-- How many of these texts do.
unfoldable pub beginning : List ℕ → List (List ℕ) → ℕ
beginning word texts = length (filter (begins word) texts)

-- The counts are those of these texts.
pub record AreCounts (tally : Tally) (texts : List (List ℕ)) : Type 0 where
  pub loaded : tally.loaded ≡ beginning (codes "loaded") texts
  pub refused : tally.refused ≡ beginning (codes "refused") texts
  pub rolled : tally.rolled ≡ beginning (codes "rolled") texts
  pub lost : tally.lost ≡ beginning (codes "lost") texts
  pub removed : tally.removed ≡ beginning (codes "removed") texts

-- The one line that is sent for so many lines, with its end.
unfoldable pub demo_line : ℕ → Tally → List ℕ
demo_line lines tally =
    codes "demo " ++ decimal lines
    ++ codes " loaded " ++ decimal tally.loaded
    ++ codes " refused " ++ decimal tally.refused
    ++ codes " rolled " ++ decimal tally.rolled
    ++ codes " lost " ++ decimal tally.lost
    ++ codes " removed " ++ decimal tally.removed
    ++ codes "\n"

-- What the lines of a run printed, the first one too.
abbrev pub printed_by : {handed_in : List ModemSeen} {ls : List (List ℕ)} {text : List ℕ} → HasRun handed_in ls text → List (List ℕ)
printed_by r = device_printed (length r.device.profiles) ∷ r.texts

-- All the generated lines were replayed, and these are the counts of what they printed.
pub record IsShown (handed_in : List ModemSeen) (start lines : ℕ) (tally : Tally) (s t : Seen) (modems : List ModemSeen) : Type 0 where
  pub text : List ℕ
  pub replayed : IsReplayed handed_in s t modems (made_lines start lines) text
  pub counts : AreCounts tally (printed_by replayed.has)

-- The replay stopped for a reason at the line of this number.
pub record IsStoppedAt (handed_in : List ModemSeen) (start : ℕ) (at : Stopped) (s t : Seen) (modems : List ModemSeen) : Type 0 where
  pub count : ℕ
  pub text : List ℕ
  pub number_is : at.number ≡ count + 1
  pub stops : Stops handed_in s t modems (made_lines start count) text (made_line start (count + 1)) at.stop

-- How it went.
abbrev pub Went : List ModemSeen → ℕ → ℕ → Result Tally Stopped → Seen → Seen → List ModemSeen → Type 0
Went handed_in start lines (Ok tally) s t modems = IsShown handed_in start lines tally s t modems
Went handed_in start lines (Err at) s t modems = IsStoppedAt handed_in start at s t modems

-- It stopped at one of its lines, if it did.
abbrev pub IsWithin : ℕ → Result Tally Stopped → Type 0
IsWithin lines (Ok tally) = Unit {0}
IsWithin lines (Err at) = (1 ≤ at.number) × (at.number ≤ lines)

-- Why no more lines are replayed, as where they are read.
abbrev pub halt_of : Result Tally Stopped → Halt
halt_of (Ok tally) = Reading reading.End
halt_of (Err at) = Handling at.stop

-- The last text, and whether it is due: the counts, or the stop line.
abbrev pub last_text : ℕ → Result Tally Stopped → List ℕ
last_text lines (Ok tally) = demo_line lines tally
last_text lines (Err at) = stop_line (line_status at.stop) at.number

abbrev pub is_due : Result Tally Stopped → Bool
is_due (Ok tally) = true
is_due (Err at) = has_stop_line (Handling at.stop)

-- A demonstration, by its status.
pub record Demonstrated (handed_in : List ModemSeen) (start lines status : ℕ) (sent0 sent : Option (List ℕ)) (s t : Seen) (modems : List ModemSeen) : Type 0 where
  pub end : Result Tally Stopped
  pub closing : Result (Unit {0}) SendStop
  pub within : IsWithin lines end
  pub says : status ≡ exit_status (halt_of end) closing
  pub sends : Closes (is_due end) sent0 sent (last_text lines end) closing
  pub told : IfTold s (Went handed_in start lines end s t modems)
