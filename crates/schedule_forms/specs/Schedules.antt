-- How a check ends, and what the generator sends.
use Rattle.std.specs.Prelude.{◌≡◌, ℕ, zero, suc, ◌+◌, ◌<◌, ◌≤◌, ◌⊎◌, List, [], ◌∷◌, ◌++◌, length, Option}
use Rattle.std.specs.List.{AllByRecursion}
use Rattle.run_loop.specs.Edges.{Edge}
use Rattle.run_loop.specs.Sends.{HasSent}
use Rattle.line_loop.specs.declared.halt.RunEnd.{RunEnd}
use Rattle.line_loop.specs.declared.reading.TheConstants.{MOST_LINES, MOST_OCTETS}
use Rattle.line_loop.specs.Lines.{IsShort, lined}
use Rattle.line_loop.specs.Runs.{Ended}
use Rattle.line_loop.specs.Sends.{stop_line}
use Rattle.line_loop.specs.Status.{exit_status}
use Rattle.iot_schedule.specs.Making.{made_line}
use Rattle.schedule_forms.specs.Grammar.{AreInGrammar}
use Rattle.schedule_forms.specs.Checks.{AreChecked, StopsCheck, EndsCheck}

-- A check ended, and the status says why.
pub record Checked (status : ℕ) (old new : Edge) : Type 0 where
  pub end : RunEnd
  pub says : status ≡ exit_status end.halt end.closing
  pub ended : Ended AreChecked StopsCheck EndsCheck old new end

-- These lines are within the limits and in the grammar.
pub record AreHandled (ls : List (List ℕ)) : Type 0 where
  pub few : length ls ≤ MOST_LINES
  pub short : AllByRecursion IsShort ls
  pub fit : AreInGrammar ls

-- Behind these lines the next one passes a limit: on its length, or on the count.
abbrev pub PassesLimit : List (List ℕ) → List (List ℕ) → Type 0
PassesLimit ls [] = ⊥
PassesLimit ls (l ∷ after) = (MOST_OCTETS < length l) ⊎ (length ls ≡ MOST_LINES)

-- Behind these lines the next one is within the limits, and with it they aren't in the grammar; or there is no line.
abbrev pub IsUnfit : List (List ℕ) → List (List ℕ) → Type 0
IsUnfit ls [] = ls ≡ []
IsUnfit ls (l ∷ after) = IsShort l × (length ls < MOST_LINES) × ¬ AreInGrammar (ls ++ l ∷ [])

-- A run stopped behind so many lines with this status and its stop line, unless memory was wanting.
abbrev pub StoppedWith : ℕ → ℕ → ℕ → Option (List ℕ) → Option (List ℕ) → Type 0
StoppedWith wanted count status sent0 sent = (status ≡ 6) ⊎ ((status ≡ wanted) × HasSent sent0 sent (stop_line wanted (count + 1)))

-- The status and the stop line where a schedule stops behind these lines, and no call failed.
pub record StopsWith (ls more : List (List ℕ)) (status : ℕ) (sent0 sent : Option (List ℕ)) : Type 0 where
  pub limit : PassesLimit ls more → StoppedWith 7 (length ls) status sent0 sent
  pub unfit : IsUnfit ls more → StoppedWith 5 (length ls) status sent0 sent

-- The first lines that the generator makes from a start, in their order.
unfoldable pub made_lines : ℕ → ℕ → List (List ℕ)
made_lines start zero = []
made_lines start (suc n) = made_lines start n ++ made_line start (suc n) ∷ []

-- The schedule of so many lines, each with its end.
abbrev pub generated : ℕ → ℕ → List ℕ
generated start n = lined (made_lines start n)
