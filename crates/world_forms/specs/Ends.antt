-- How a replay ends over lines that are a schedule, and over lines that stop being one, where neither the source nor
-- the sink fails.
use Rattle.std.specs.Prelude.{◌≡◌, ◌⊎◌, ℕ, ◌+◌, List, [], ◌∷◌, ◌++◌, length, Option, Some}
use Rattle.chip_port.specs.Seen.{Seen}
use Rattle.line_loop.specs.Lines.{lines_of}
use Rattle.line_loop.specs.Sends.{stop_line}
use Rattle.modem_bank.specs.Modems.{Seen as ModemSeen}
use Rattle.run_loop.specs.Sends.{HasSent}
use Rattle.schedule_forms.specs.Schedules.{AreHandled, PassesLimit, IsUnfit}
use Rattle.world_card.specs.Starts.{IsUnstarted}
use Rattle.world_forms.specs.Courses.{HasRun}
use Rattle.world_forms.specs.Replays.{IsOverBehind}

-- The text of these lines: none where there is no line, and else the trace of their run.
abbrev pub IsTextOf : List ModemSeen → List (List ℕ) → List ℕ → Type 0
IsTextOf handed_in ls text = ((ls ≡ []) × (text ≡ [])) ⊎ HasRun handed_in ls text

-- Behind the first of these lines, a message of the next one would pass the limit on the octets of all messages.
pub record IsOver (handed_in : List ModemSeen) (s t : Seen) (modems : List ModemSeen) (all : List (List ℕ)) : Type 0 where
  pub front : List (List ℕ)
  pub line : List ℕ
  pub after : List (List ℕ)
  pub parts : all ≡ front ++ line ∷ after
  pub text : List ℕ
  pub over : IsOverBehind handed_in s t modems front text line

-- The input was read to its end, its lines are a schedule within the limits, and the trace of their run was sent.
pub record IsDone (handed_in : List ModemSeen) (input : List ℕ) (rest sent0 sent : Option (List ℕ)) : Type 0 where
  pub to_end : rest ≡ Some []
  pub handled : AreHandled (lines_of input)
  pub text : List ℕ
  pub run : HasRun handed_in (lines_of input) text
  pub has_sent : HasSent sent0 sent text

-- What may end a replay besides its lines: memory, a message over the limit, and a call that failed while the card was
-- personalised.
abbrev pub IsHindered : List ModemSeen → Seen → Seen → List ModemSeen → List (List ℕ) → ℕ → Type 0
IsHindered handed_in s t modems all status =
    (status ≡ 6) ⊎ (((status ≡ 7) × IsOver handed_in s t modems all) ⊎ ((status ≡ 4) × IsUnstarted s t))

-- These lines were replayed to their end, unless something hindered it.
abbrev pub EndsWell : List ModemSeen → Seen → Seen → List ModemSeen → List (List ℕ) → ℕ → Type 0
EndsWell handed_in s t modems all status = (status ≡ 0) ⊎ IsHindered handed_in s t modems all status

-- A replay stopped behind these lines with this status: their text was sent, and behind it the stop line.
pub record HasStopped (handed_in : List ModemSeen) (ls : List (List ℕ)) (wanted status : ℕ) (sent0 sent : Option (List ℕ)) : Type 0 where
  pub status_is : status ≡ wanted
  pub text : List ℕ
  pub text_of : IsTextOf handed_in ls text
  pub has_sent : HasSent sent0 sent (text ++ stop_line wanted (length ls + 1))

-- The same, unless something hindered it.
abbrev pub StoppedWith : List ModemSeen → Seen → Seen → List ModemSeen → List (List ℕ) → List (List ℕ) → ℕ → ℕ → Option (List ℕ) → Option (List ℕ) → Type 0
StoppedWith handed_in s t modems ls more wanted status sent0 sent =
    HasStopped handed_in ls wanted status sent0 sent ⊎ IsHindered handed_in s t modems (ls ++ more) status

-- The status and what was sent where a schedule stops behind these lines.
pub record StopsWith (handed_in : List ModemSeen) (s t : Seen) (modems : List ModemSeen) (ls more : List (List ℕ)) (status : ℕ) (sent0 sent : Option (List ℕ)) : Type 0 where
  pub limit : PassesLimit ls more → StoppedWith handed_in s t modems ls more 7 status sent0 sent
  pub unfit : IsUnfit ls more → StoppedWith handed_in s t modems ls more 5 status sent0 sent
