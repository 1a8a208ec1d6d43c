-- Sending a generated schedule in pieces.
use Rattle.std.specs.Prelude.{◌≡◌, ℕ, ◌+◌, ◌≤◌, List, [], ◌++◌, Option, Result, Ok, Err}
use Rattle.run_loop.specs.Sends.{HasSent, HasSentInto}
use Rattle.run_loop.specs.declared.halt.SendStop.{SendStop}
use Rattle.run_loop.specs.declared.halt.SendStop.TheVariants.{Fault, NoMemory}
use Rattle.iot_schedule.specs.Making.{state_before}
use Rattle.schedule_forms.specs.Schedules.{generated}

-- Of a schedule the first lines were sent, and no others.
pub record SentFront (start count : ℕ) (sent0 sent : Option (List ℕ)) : Type 0 where
  pub gone : ℕ
  pub few : gone ≤ count
  pub has_sent : HasSent sent0 sent (generated start gone)

-- So many lines are made: the first were sent, and these octets are the others.
pub record InPieces (start count : ℕ) (sent0 sent : Option (List ℕ)) (unsent : List ℕ) : Type 0 where
  pub front : SentFront start count sent0 sent
  pub whole : generated start count ≡ generated start front.gone ++ unsent

-- Lines that are made were sent or are to be sent, or the sink failed inside them.
abbrev pub Passed : ℕ → ℕ → Option (List ℕ) → Option (List ℕ) → List ℕ → Result (Unit {0}) SendStop → Type 0
Passed start count sent0 sent unsent (Ok done) = InPieces start count sent0 sent unsent
Passed start count sent0 sent unsent (Err Fault) = HasSentInto sent0 sent [] (generated start count)
Passed start count sent0 sent unsent (Err NoMemory) = ⊥

-- They were all sent, or the sink failed inside them.
abbrev pub Flushed : ℕ → ℕ → Option (List ℕ) → Option (List ℕ) → List ℕ → Result (Unit {0}) SendStop → Type 0
Flushed start count sent0 sent unsent (Ok done) = (unsent ≡ []) × HasSent sent0 sent (generated start count)
Flushed start count sent0 sent unsent (Err Fault) = HasSentInto sent0 sent [] (generated start count)
Flushed start count sent0 sent unsent (Err NoMemory) = ⊥

-- One more line was made, or memory was wanting for it, or the sink failed.
abbrev pub MadeOne : ℕ → ℕ → Option (List ℕ) → Option (List ℕ) → List ℕ → ℕ → Result (Unit {0}) SendStop → Type 0
MadeOne start count sent0 sent unsent state (Ok done) = InPieces start (count + 1) sent0 sent unsent × (state ≡ state_before start (count + 2))
MadeOne start count sent0 sent unsent state (Err Fault) = HasSentInto sent0 sent [] (generated start (count + 1))
MadeOne start count sent0 sent unsent state (Err NoMemory) = SentFront start count sent0 sent

-- A schedule was sent, or all of it but its end since the sink failed, or its first lines since memory was wanting.
abbrev pub Generated : ℕ → ℕ → Option (List ℕ) → Option (List ℕ) → Result (Unit {0}) SendStop → Type 0
Generated start count sent0 sent (Ok done) = HasSent sent0 sent (generated start count)
Generated start count sent0 sent (Err Fault) = HasSentInto sent0 sent [] (generated start count)
Generated start count sent0 sent (Err NoMemory) = SentFront start count sent0 sent

-- The exit status of the generator.
abbrev pub gen_status : Result (Unit {0}) SendStop → ℕ
gen_status (Ok done) = 0
gen_status (Err Fault) = 3
gen_status (Err NoMemory) = 6

-- A schedule was generated, and the status says how far it was sent.
pub record HasGenerated (start count status : ℕ) (sent0 sent : Option (List ℕ)) : Type 0 where
  pub end : Result (Unit {0}) SendStop
  pub says : status ≡ gen_status end
  pub generates : Generated start count sent0 sent end
