-- What a run over lines says of its part may be weakened, and its status tells its end.
use Rattle.std.specs.Prelude.{◌⊎◌}
use Rattle.std.proofs.Common.{◌≡◌, ℕ, ◌≤◌, List, length, Option, Result, Ok, Err, refl, inl, inr}
use Rattle.run_loop.specs.Edges.{Edge}
use Rattle.run_loop.specs.declared.halt.SendStop.{SendStop}
use Rattle.run_loop.specs.declared.halt.SendStop.TheVariants as sending
use Rattle.run_loop.specs.Parts.{Walk}
use Rattle.line_loop.specs.declared.reading.TheConstants.{MOST_LINES}
use Rattle.line_loop.specs.declared.halt.NoLine.TheVariants as reading
use Rattle.line_loop.specs.declared.halt.LineStop.{LineStop}
use Rattle.line_loop.specs.declared.halt.LineStop.TheVariants as handling
use Rattle.line_loop.specs.declared.halt.EndStop.{EndStop}
use Rattle.line_loop.specs.declared.halt.EndStop.TheVariants as ending
use Rattle.line_loop.specs.declared.halt.Halt.{Halt}
use Rattle.line_loop.specs.declared.halt.Halt.TheVariants.{Reading, Handling, Ending, Sending}
use Rattle.line_loop.specs.declared.halt.RunEnd.{RunEnd}
use Rattle.line_loop.specs.Parts.{Stopping}
use Rattle.line_loop.specs.Parts as parts
use Rattle.line_loop.specs.Runs.{Reason, Concludes, Ended}
use Rattle.line_loop.specs.Status.{exit_status}

reason_map : (walk walk' : Walk) (stops stops' : Stopping) (rest0 rest : Option (List ℕ)) (ls : List (List ℕ)) (text : List ℕ) (halt : Halt) → length ls ≤ MOST_LINES
    → ((ls : List (List ℕ)) (text : List ℕ) → length ls ≤ MOST_LINES → walk ls text → walk' ls text)
    → ((ls : List (List ℕ)) (text l : List ℕ) (stop : LineStop) → length ls ≤ MOST_LINES → stops ls text l stop → stops' ls text l stop)
    → Reason walk stops rest0 rest ls text halt → Reason walk' stops' rest0 rest ls text halt
reason_map walk walk' stops stops' rest0 rest ls text (Reading stop) few weaker weaker' r = (weaker ls text few r.0, r.1)
reason_map walk walk' stops stops' rest0 rest ls text (Handling stop) few weaker weaker' r = (r.0, weaker' ls text r.0 stop few r.1, r.2, r.3)
reason_map walk walk' stops stops' rest0 rest ls text (Ending stop) few weaker weaker' r = (weaker ls text few r.0, r.1)
reason_map walk walk' stops stops' rest0 rest ls text Sending few weaker weaker' r = (weaker ls text few r.0, r.1)

concludes_map : (ends ends' : parts.Ending) (ls : List (List ℕ)) (text closing : List ℕ) (halt : Halt) → length ls ≤ MOST_LINES
    → ((ls : List (List ℕ)) (text : List ℕ) (end : Result (List ℕ) EndStop) → length ls ≤ MOST_LINES → ends ls text end → ends' ls text end)
    → Concludes ends ls text closing halt → Concludes ends' ls text closing halt
concludes_map ends ends' ls text closing (Reading reading.End) few weaker c = weaker ls text (Ok closing) few c
concludes_map ends ends' ls text closing (Reading reading.Fault) few weaker c = tt
concludes_map ends ends' ls text closing (Reading reading.Limit) few weaker c = tt
concludes_map ends ends' ls text closing (Reading reading.NoMemory) few weaker c = tt
concludes_map ends ends' ls text closing (Handling stop) few weaker c = tt
concludes_map ends ends' ls text closing (Ending stop) few weaker c = weaker ls text (Err stop) few c
concludes_map ends ends' ls text closing Sending few weaker c = tt

pub ended_map : (walk walk' : Walk) (stops stops' : Stopping) (ends ends' : parts.Ending) (old new : Edge) (end : RunEnd)
    → ((ls : List (List ℕ)) (text : List ℕ) → length ls ≤ MOST_LINES → walk ls text → walk' ls text)
    → ((ls : List (List ℕ)) (text l : List ℕ) (stop : LineStop) → length ls ≤ MOST_LINES → stops ls text l stop → stops' ls text l stop)
    → ((ls : List (List ℕ)) (text : List ℕ) (end : Result (List ℕ) EndStop) → length ls ≤ MOST_LINES → ends ls text end → ends' ls text end)
    → Ended walk stops ends old new end → Ended walk' stops' ends' old new end
ended_map walk walk' stops stops' ends ends' old new end weaker weaker' weaker'' e = record {
  lines = e.lines;
  text = e.text;
  closing = e.closing;
  few = e.few;
  reason = reason_map walk walk' stops stops' old.rest new.rest e.lines e.text end.halt e.few weaker weaker' e.reason;
  concludes = concludes_map ends ends' e.lines e.text e.closing end.halt e.few weaker'' e.concludes;
  sent = e.sent;
  causes = e.causes;
}

-- which ends have a status
pub status_one : (halt : Halt) (closing : Result (Unit {0}) SendStop) → exit_status halt closing ≡ 1 → ⊥
status_one (Reading reading.End) (Ok done) e = absurd cc
status_one (Reading reading.Fault) (Ok done) e = absurd cc
status_one (Reading reading.Limit) (Ok done) e = absurd cc
status_one (Reading reading.NoMemory) (Ok done) e = absurd cc
status_one (Handling handling.ChipFault) (Ok done) e = absurd cc
status_one (Handling handling.Malformed) (Ok done) e = absurd cc
status_one (Handling handling.Limit) (Ok done) e = absurd cc
status_one (Handling handling.Unrecognised) (Ok done) e = absurd cc
status_one (Handling handling.NoMemory) (Ok done) e = absurd cc
status_one (Ending ending.Missing) (Ok done) e = absurd cc
status_one (Ending ending.NoMemory) (Ok done) e = absurd cc
status_one Sending (Ok done) e = absurd cc
status_one halt (Err sending.Fault) e = absurd cc
status_one halt (Err sending.NoMemory) e = absurd cc

pub status_two : (halt : Halt) (closing : Result (Unit {0}) SendStop) → exit_status halt closing ≡ 2 → halt ≡ Reading reading.Fault
status_two (Reading reading.End) (Ok done) e = absurd cc
status_two (Reading reading.Fault) (Ok done) e = refl
status_two (Reading reading.Limit) (Ok done) e = absurd cc
status_two (Reading reading.NoMemory) (Ok done) e = absurd cc
status_two (Handling handling.ChipFault) (Ok done) e = absurd cc
status_two (Handling handling.Malformed) (Ok done) e = absurd cc
status_two (Handling handling.Limit) (Ok done) e = absurd cc
status_two (Handling handling.Unrecognised) (Ok done) e = absurd cc
status_two (Handling handling.NoMemory) (Ok done) e = absurd cc
status_two (Ending ending.Missing) (Ok done) e = absurd cc
status_two (Ending ending.NoMemory) (Ok done) e = absurd cc
status_two Sending (Ok done) e = absurd cc
status_two halt (Err sending.Fault) e = absurd cc
status_two halt (Err sending.NoMemory) e = absurd cc

pub status_three : (halt : Halt) (closing : Result (Unit {0}) SendStop) → exit_status halt closing ≡ 3 → (halt ≡ Sending) ⊎ (closing ≡ Err sending.Fault)
status_three (Reading reading.End) (Ok done) e = absurd cc
status_three (Reading reading.Fault) (Ok done) e = absurd cc
status_three (Reading reading.Limit) (Ok done) e = absurd cc
status_three (Reading reading.NoMemory) (Ok done) e = absurd cc
status_three (Handling handling.ChipFault) (Ok done) e = absurd cc
status_three (Handling handling.Malformed) (Ok done) e = absurd cc
status_three (Handling handling.Limit) (Ok done) e = absurd cc
status_three (Handling handling.Unrecognised) (Ok done) e = absurd cc
status_three (Handling handling.NoMemory) (Ok done) e = absurd cc
status_three (Ending ending.Missing) (Ok done) e = absurd cc
status_three (Ending ending.NoMemory) (Ok done) e = absurd cc
status_three Sending (Ok done) e = inl refl
status_three halt (Err sending.Fault) e = inr refl
status_three halt (Err sending.NoMemory) e = absurd cc
