-- A run over frames, and how it ends.
use Rattle.std.specs.Prelude.{◌≡◌, ℕ, ◌+◌, ◌<◌, ◌≤◌, ◌⊎◌, List, length, Option, Some, Result, Ok, Err}
use Rattle.iot_bytes.specs.Frames.{frame}
use Rattle.es10_codec.specs.Spelling.{stopped}
use Rattle.run_loop.specs.declared.reading.TheConstants.{MOST_FRAMES}
use Rattle.run_loop.specs.declared.halt.ReadStop.TheVariants as reading
use Rattle.run_loop.specs.declared.halt.PartStop.{PartStop}
use Rattle.run_loop.specs.declared.halt.SendStop.{SendStop}
use Rattle.run_loop.specs.declared.halt.SendStop.TheVariants as sending
use Rattle.run_loop.specs.declared.halt.Halt.{Halt}
use Rattle.run_loop.specs.declared.halt.Halt.TheVariants.{Reading, Answering, Sending}
use Rattle.run_loop.specs.declared.halt.RunEnd.{RunEnd}
use Rattle.run_loop.specs.Edges.{Edge, HasCauses}
use Rattle.run_loop.specs.Frames.{IsTaken, NoFrame, HasTaken}
use Rattle.run_loop.specs.Parts.{Walk, Stopping}
use Rattle.run_loop.specs.Sends.{HasSent, IsCutShort, Closes, Closed}
use Rattle.run_loop.specs.Status.{part_status, halt_status, has_record}

-- These frames were answered, with this text, and the next frame is due.
pub record Progress (behind : Walk) (old now : Edge) (count : ℕ) : Type 0 where
  pub frames : List (List ℕ)
  pub text : List ℕ
  pub counted : length frames ≡ count
  pub stands : behind frames text
  pub taken : HasTaken old.rest frames (λ tail. now.rest ≡ Some tail)
  pub sent : HasSent old.sent now.sent text
  pub causes : HasCauses old now ⊥ ⊥

-- Why no more than these frames were answered, and what was taken of the octets that follow them: nothing is
-- taken from behind the frame in hand. A frame past the limit on the count isn't handed to the part.
abbrev pub Reason : Walk → Stopping → Option (List ℕ) → Option (List ℕ) → List (List ℕ) → List ℕ → Halt → Type 0
Reason behind stops rest0 rest fs text (Reading stop) = behind fs text × HasTaken rest0 fs (λ tail. NoFrame (length fs) tail rest stop)
Reason behind stops rest0 rest fs text (Answering stop) = (f : List ℕ) × stops fs text f stop × HasTaken rest0 fs (λ tail. IsTaken f tail rest) × (length fs < MOST_FRAMES)
Reason behind stops rest0 rest fs text Sending = behind fs text × HasTaken rest0 fs (λ tail. rest ≡ Some tail)

-- The frame of the stop record with this status behind so many frames: its number is that of the next frame, from 1.
abbrev pub record_behind : ℕ → ℕ → List ℕ
record_behind status count = frame (stopped status (count + 1))

-- What was sent for these frames, by the reason that there are no more, before the stop record. Where the sink
-- failed, the last frame lacks its end.
abbrev pub SentBefore : Option (List ℕ) → Option (List ℕ) → List ℕ → Halt → Type 0
SentBefore sent0 sent text (Reading stop) = HasSent sent0 sent text
SentBefore sent0 sent text (Answering stop) = HasSent sent0 sent text
SentBefore sent0 sent text Sending = (content : List ℕ) × IsCutShort sent0 sent text (frame content)

-- The number of the frame in hand behind so many, from 1.
abbrev pub IsNumbered : ℕ → ℕ → Halt → Type 0
IsNumbered number count (Reading stop) = number ≡ count + 1
IsNumbered number count (Answering stop) = number ≡ count + 1
IsNumbered number count Sending = number ≡ count

-- No more frames are answered, and no stop record was sent yet. The number is that of the frame in hand, from 1.
pub record Halted (behind : Walk) (stops : Stopping) (old now : Edge) (number : ℕ) (halt : Halt) : Type 0 where
  pub frames : List (List ℕ)
  pub text : List ℕ
  pub few : length frames ≤ MOST_FRAMES
  pub numbered : IsNumbered number (length frames) halt
  pub reason : Reason behind stops old.rest now.rest frames text halt
  pub sent : SentBefore old.sent now.sent text halt
  pub causes : HasCauses old now (halt ≡ Reading reading.Fault) (halt ≡ Sending)

-- One more frame was answered, or no more are.
abbrev pub Turned : Walk → Stopping → Edge → Edge → ℕ → Result (Unit {0}) Halt → Type 0
Turned behind stops old now count (Ok done) = Progress behind old now (count + 1)
Turned behind stops old now count (Err halt) = Halted behind stops old now (count + 1) halt

-- What was sent for these frames: their text, and behind it the stop record where the reason has one; or, where the
-- sink failed, all but the end of the last of it; or, where memory for the stop record was wanting, the text.
abbrev pub SentFor : Option (List ℕ) → Option (List ℕ) → List (List ℕ) → List ℕ → Halt → Result (Unit {0}) SendStop → Type 0
SentFor sent0 sent fs text (Reading stop) closing = Closed (has_record (Reading stop)) sent0 sent text (record_behind (halt_status (Reading stop)) (length fs)) closing
SentFor sent0 sent fs text (Answering stop) closing = Closed (has_record (Answering stop)) sent0 sent text (record_behind (halt_status (Answering stop)) (length fs)) closing
SentFor sent0 sent fs text Sending closing = (closing ≡ Ok tt) × ((content : List ℕ) × IsCutShort sent0 sent text (frame content))

-- The run is over.
pub record Ended (behind : Walk) (stops : Stopping) (old new : Edge) (end : RunEnd) : Type 0 where
  pub frames : List (List ℕ)
  pub text : List ℕ
  -- the frames that were answered, and why no more
  pub few : length frames ≤ MOST_FRAMES
  pub reason : Reason behind stops old.rest new.rest frames text end.halt
  -- what was sent
  pub sent : SentFor old.sent new.sent frames text end.halt end.closing
  -- a fault comes only where a call failed
  pub causes : HasCauses old new (end.halt ≡ Reading reading.Fault) ((end.halt ≡ Sending) ⊎ (end.closing ≡ Err sending.Fault))

-- The run ended before a frame was read: what its part works on couldn't be opened, for this reason. Nothing was
-- taken, and the number of the stop record, where one is due, is 0.
pub record IsUnopened (stop : PartStop) (old new : Edge) (end : RunEnd) : Type 0 where
  pub halts : end.halt ≡ Answering stop
  pub untaken : new.rest ≡ old.rest
  pub unread : new.read_faults ≡ old.read_faults
  pub sent : Closes (has_record (Answering stop)) old.sent new.sent (frame (stopped (part_status stop) 0)) end.closing
  -- a fault of the sink comes only where a call failed
  pub causes : HasCauses old new ⊥ (end.closing ≡ Err sending.Fault)
