-- A run over lines, and how it ends.
use Rattle.std.specs.Prelude.{◌≡◌, ◌≢◌, ℕ, ◌+◌, ◌<◌, ◌≤◌, ◌⊎◌, List, length, Option, Some, Result, Ok, Err}
use Rattle.run_loop.specs.Edges.{Edge, HasCauses}
use Rattle.run_loop.specs.Sends.{HasSent, IsCutShort, Closed}
use Rattle.run_loop.specs.declared.halt.SendStop.{SendStop}
use Rattle.run_loop.specs.declared.halt.SendStop.TheVariants as sending
use Rattle.run_loop.specs.Parts.{Walk}
use Rattle.line_loop.specs.declared.reading.TheConstants.{MOST_LINES}
use Rattle.line_loop.specs.declared.halt.NoLine.TheVariants as reading
use Rattle.line_loop.specs.declared.halt.EndStop.{EndStop}
use Rattle.line_loop.specs.declared.halt.Halt.{Halt}
use Rattle.line_loop.specs.declared.halt.Halt.TheVariants.{Reading, Handling, Ending, Sending}
use Rattle.line_loop.specs.declared.halt.RunEnd.{RunEnd}
use Rattle.line_loop.specs.Lines.{IsTaken, NoLineAt, HasTaken}
use Rattle.line_loop.specs.Parts as parts
use Rattle.line_loop.specs.Parts.{Stopping}
use Rattle.line_loop.specs.Sends.{SentBehind, stop_line}
use Rattle.line_loop.specs.Status.{halt_status, has_stop_line}

-- These lines were handled, with this text, and the next line is due.
pub record Progress (behind : Walk) (old now : Edge) (count : ℕ) : Type 0 where
  pub lines : List (List ℕ)
  pub text : List ℕ
  pub counted : length lines ≡ count
  pub stands : behind lines text
  pub taken : HasTaken old.rest lines (λ tail. now.rest ≡ Some tail)
  pub sent : HasSent old.sent now.sent text
  pub causes : HasCauses old now ⊥ ⊥

-- Why no more than these lines were handled, and what was taken of the octets that follow them: nothing is taken
-- from behind the line in hand.
abbrev pub Reason : Walk → Stopping → Option (List ℕ) → Option (List ℕ) → List (List ℕ) → List ℕ → Halt → Type 0
Reason behind stops rest0 rest ls text (Reading stop) = behind ls text × HasTaken rest0 ls (λ tail. NoLineAt (length ls) tail rest stop)
Reason behind stops rest0 rest ls text (Handling stop) = (l : List ℕ) × stops ls text l stop × (length ls < MOST_LINES) × HasTaken rest0 ls (λ tail. (behind : List ℕ) × IsTaken l tail behind × (rest ≡ Some behind))
Reason behind stops rest0 rest ls text (Ending stop) = behind ls text × HasTaken rest0 ls (λ tail. NoLineAt (length ls) tail rest reading.End)
Reason behind stops rest0 rest ls text Sending = behind ls text × HasTaken rest0 ls (λ tail. rest ≡ Some tail)

-- What was sent for these lines, by the reason that there are no more, before the last text.
abbrev pub SentBefore : Option (List ℕ) → Option (List ℕ) → List ℕ → Halt → Type 0
SentBefore sent0 sent text (Reading stop) = HasSent sent0 sent text
SentBefore sent0 sent text (Handling stop) = HasSent sent0 sent text
SentBefore sent0 sent text (Ending stop) = HasSent sent0 sent text
SentBefore sent0 sent text Sending = (last : List ℕ) × IsCutShort sent0 sent text last

-- The number of the line in hand behind so many, from 1.
abbrev pub IsNumbered : ℕ → ℕ → Halt → Type 0
IsNumbered number count (Reading stop) = number ≡ count + 1
IsNumbered number count (Handling stop) = number ≡ count + 1
IsNumbered number count (Ending stop) = number ≡ count + 1
IsNumbered number count Sending = number ≡ count

-- No more lines are handled, and no last text was sent yet. The number is that of the line in hand, from 1.
pub record Halted (behind : Walk) (stops : Stopping) (old now : Edge) (number : ℕ) (halt : Halt) : Type 0 where
  pub lines : List (List ℕ)
  pub text : List ℕ
  pub few : length lines ≤ MOST_LINES
  pub numbered : IsNumbered number (length lines) halt
  pub reason : Reason behind stops old.rest now.rest lines text halt
  -- the part wasn't asked yet whether the input may end here
  pub unasked : (stop : EndStop) → halt ≢ Ending stop
  pub sent : SentBefore old.sent now.sent text halt
  pub causes : HasCauses old now (halt ≡ Reading reading.Fault) (halt ≡ Sending)

-- One more line was handled, or no more are.
abbrev pub Turned : Walk → Stopping → Edge → Edge → ℕ → Result (Unit {0}) Halt → Type 0
Turned behind stops old now count (Ok done) = Progress behind old now (count + 1)
Turned behind stops old now count (Err halt) = Halted behind stops old now (count + 1) halt

-- The stop line with this reason behind so many lines: its number is that of the next line, from 1.
abbrev pub line_behind : Halt → ℕ → List ℕ
line_behind halt count = stop_line (halt_status halt) (count + 1)

-- Behind these lines, with this text, the closing text is this one, or the input may not end there.
abbrev pub Concludes : parts.Ending → List (List ℕ) → List ℕ → List ℕ → Halt → Type 0
Concludes ends ls text closing (Reading reading.End) = ends ls text (Ok closing)
Concludes ends ls text closing (Ending stop) = ends ls text (Err stop)
Concludes ends ls text closing other = Unit {0}

-- What was sent for so many lines: their text, and behind it the closing text at the end of the input, or the stop
-- line where the reason has one; or, where the sink failed, all but the end of the last of it; or, where memory for
-- the stop line was wanting, the text.
abbrev pub SentFor : Option (List ℕ) → Option (List ℕ) → ℕ → List ℕ → List ℕ → Halt → Result (Unit {0}) SendStop → Type 0
SentFor sent0 sent count text closing (Reading reading.End) ended = SentBehind sent0 sent text closing ended
SentFor sent0 sent count text closing Sending ended = (ended ≡ Ok tt) × ((last : List ℕ) × IsCutShort sent0 sent text last)
SentFor sent0 sent count text closing other ended = Closed (has_stop_line other) sent0 sent text (line_behind other count) ended

-- The run is over.
pub record Ended (behind : Walk) (stops : Stopping) (ends : parts.Ending) (old new : Edge) (end : RunEnd) : Type 0 where
  pub lines : List (List ℕ)
  pub text : List ℕ
  pub closing : List ℕ
  -- the lines that were handled, and why no more
  pub few : length lines ≤ MOST_LINES
  pub reason : Reason behind stops old.rest new.rest lines text end.halt
  pub concludes : Concludes ends lines text closing end.halt
  -- what was sent
  pub sent : SentFor old.sent new.sent (length lines) text closing end.halt end.closing
  -- a fault comes only where a call failed
  pub causes : HasCauses old new (end.halt ≡ Reading reading.Fault) ((end.halt ≡ Sending) ⊎ (end.closing ≡ Err sending.Fault))
