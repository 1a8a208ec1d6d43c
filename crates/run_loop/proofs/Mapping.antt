-- What a run says of its part may be weakened, and its status tells its end.
use Rattle.std.specs.Prelude.{◌⊎◌}
use Rattle.std.proofs.Common.{◌≡◌, ℕ, List, Option, Result, Ok, Err, refl, inl, inr}
use Rattle.run_loop.specs.declared.halt.ReadStop.TheVariants as reading
use Rattle.run_loop.specs.declared.halt.PartStop.{PartStop}
use Rattle.run_loop.specs.declared.halt.PartStop.TheVariants as answering
use Rattle.run_loop.specs.declared.halt.SendStop.{SendStop}
use Rattle.run_loop.specs.declared.halt.SendStop.TheVariants as sending
use Rattle.run_loop.specs.declared.halt.Halt.{Halt}
use Rattle.run_loop.specs.declared.halt.Halt.TheVariants.{Reading, Answering, Sending}
use Rattle.run_loop.specs.declared.halt.RunEnd.{RunEnd}
use Rattle.run_loop.specs.Edges.{Edge}
use Rattle.run_loop.specs.Parts.{Walk, Stopping}
use Rattle.run_loop.specs.Runs.{Reason, Ended}
use Rattle.run_loop.specs.Status.{exit_status}

reason_map : (walk walk' : Walk) (stops stops' : Stopping) (rest0 rest : Option (List ℕ)) (fs : List (List ℕ)) (text : List ℕ) (halt : Halt)
    → ((fs : List (List ℕ)) (text : List ℕ) → walk fs text → walk' fs text)
    → ((fs : List (List ℕ)) (text f : List ℕ) (stop : PartStop) → stops fs text f stop → stops' fs text f stop)
    → Reason walk stops rest0 rest fs text halt → Reason walk' stops' rest0 rest fs text halt
reason_map walk walk' stops stops' rest0 rest fs text (Reading stop) weaker weaker' r = (weaker fs text r.0, r.1)
reason_map walk walk' stops stops' rest0 rest fs text (Answering stop) weaker weaker' r = (r.0, weaker' fs text r.0 stop r.1, r.2, r.3)
reason_map walk walk' stops stops' rest0 rest fs text Sending weaker weaker' r = (weaker fs text r.0, r.1)

pub ended_map : (walk walk' : Walk) (stops stops' : Stopping) (old new : Edge) (end : RunEnd)
    → ((fs : List (List ℕ)) (text : List ℕ) → walk fs text → walk' fs text)
    → ((fs : List (List ℕ)) (text f : List ℕ) (stop : PartStop) → stops fs text f stop → stops' fs text f stop)
    → Ended walk stops old new end → Ended walk' stops' old new end
ended_map walk walk' stops stops' old new end weaker weaker' e = record {
  frames = e.frames;
  text = e.text;
  few = e.few;
  reason = reason_map walk walk' stops stops' old.rest new.rest e.frames e.text end.halt weaker weaker' e.reason;
  sent = e.sent;
  causes = e.causes;
}

pub status_two : (halt : Halt) (closing : Result (Unit {0}) SendStop) → exit_status halt closing ≡ 2 → halt ≡ Reading reading.Fault
status_two (Reading reading.End) (Ok done) e = absurd cc
status_two (Reading reading.Fault) (Ok done) e = refl
status_two (Reading reading.Torn) (Ok done) e = absurd cc
status_two (Reading reading.Limit) (Ok done) e = absurd cc
status_two (Reading reading.NoMemory) (Ok done) e = absurd cc
status_two (Answering answering.ChipFault) (Ok done) e = absurd cc
status_two (Answering answering.Malformed) (Ok done) e = absurd cc
status_two (Answering answering.Unrecognised) (Ok done) e = absurd cc
status_two (Answering answering.NoMemory) (Ok done) e = absurd cc
status_two Sending (Ok done) e = absurd cc
status_two halt (Err sending.Fault) e = absurd cc
status_two halt (Err sending.NoMemory) e = absurd cc

pub status_three : (halt : Halt) (closing : Result (Unit {0}) SendStop) → exit_status halt closing ≡ 3 → (halt ≡ Sending) ⊎ (closing ≡ Err sending.Fault)
status_three (Reading reading.End) (Ok done) e = absurd cc
status_three (Reading reading.Fault) (Ok done) e = absurd cc
status_three (Reading reading.Torn) (Ok done) e = absurd cc
status_three (Reading reading.Limit) (Ok done) e = absurd cc
status_three (Reading reading.NoMemory) (Ok done) e = absurd cc
status_three (Answering answering.ChipFault) (Ok done) e = absurd cc
status_three (Answering answering.Malformed) (Ok done) e = absurd cc
status_three (Answering answering.Unrecognised) (Ok done) e = absurd cc
status_three (Answering answering.NoMemory) (Ok done) e = absurd cc
status_three Sending (Ok done) e = inl refl
status_three halt (Err sending.Fault) e = inr refl
status_three halt (Err sending.NoMemory) e = absurd cc

-- no end has status 1
pub not_one : (halt : Halt) (closing : Result (Unit {0}) SendStop) → exit_status halt closing ≡ 1 → ⊥
not_one (Reading reading.End) (Ok done) e = absurd cc
not_one (Reading reading.Fault) (Ok done) e = absurd cc
not_one (Reading reading.Torn) (Ok done) e = absurd cc
not_one (Reading reading.Limit) (Ok done) e = absurd cc
not_one (Reading reading.NoMemory) (Ok done) e = absurd cc
not_one (Answering answering.ChipFault) (Ok done) e = absurd cc
not_one (Answering answering.Malformed) (Ok done) e = absurd cc
not_one (Answering answering.Unrecognised) (Ok done) e = absurd cc
not_one (Answering answering.NoMemory) (Ok done) e = absurd cc
not_one Sending (Ok done) e = absurd cc
not_one halt (Err sending.Fault) e = absurd cc
not_one halt (Err sending.NoMemory) e = absurd cc
