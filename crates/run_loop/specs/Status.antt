-- The exit statuses.
use Rattle.std.specs.Prelude.{ℕ, Bool, true, false, Result, Ok, Err}
use Rattle.run_loop.specs.declared.halt.ReadStop.{ReadStop}
use Rattle.run_loop.specs.declared.halt.ReadStop.TheVariants as reading
use Rattle.run_loop.specs.declared.halt.PartStop.{PartStop}
use Rattle.run_loop.specs.declared.halt.PartStop.TheVariants as answering
use Rattle.run_loop.specs.declared.halt.SendStop.{SendStop}
use Rattle.run_loop.specs.declared.halt.SendStop.TheVariants as sending
use Rattle.run_loop.specs.declared.halt.Halt.{Halt}
use Rattle.run_loop.specs.declared.halt.Halt.TheVariants.{Reading, Answering, Sending}

-- The status where there is no further frame.
abbrev pub read_status : ReadStop → ℕ
read_status reading.End = 0
read_status reading.Fault = 2
read_status reading.Torn = 5
read_status reading.NoMemory = 6
read_status reading.Limit = 7

-- The status where a part has no answer.
abbrev pub part_status : PartStop → ℕ
part_status answering.ChipFault = 4
part_status answering.Malformed = 5
part_status answering.NoMemory = 6
part_status answering.Unrecognised = 8

-- The status where a frame isn't sent whole.
abbrev pub send_status : SendStop → ℕ
send_status sending.Fault = 3
send_status sending.NoMemory = 6

-- The status of each reason that no more frames are answered.
abbrev pub halt_status : Halt → ℕ
halt_status (Reading stop) = read_status stop
halt_status (Answering stop) = part_status stop
halt_status Sending = send_status sending.Fault

-- A stop record is written for it: for all but the end, want of memory and a fault of the sink.
abbrev pub has_record : Halt → Bool
has_record (Reading reading.End) = false
has_record (Reading reading.Fault) = true
has_record (Reading reading.Torn) = true
has_record (Reading reading.NoMemory) = false
has_record (Reading reading.Limit) = true
has_record (Answering answering.ChipFault) = true
has_record (Answering answering.Malformed) = true
has_record (Answering answering.NoMemory) = false
has_record (Answering answering.Unrecognised) = true
has_record Sending = false

-- The exit status: that of the reason, or of what went wrong with the stop record.
abbrev pub exit_status : Halt → Result (Unit {0}) SendStop → ℕ
exit_status halt (Ok done) = halt_status halt
exit_status halt (Err stop) = send_status stop
