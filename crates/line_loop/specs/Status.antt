-- The exit statuses of runs over lines.
use Rattle.std.specs.Prelude.{ℕ, Bool, true, false, Result, Ok, Err}
use Rattle.iot_bytes.specs.declared.memory.ReadError.{ReadError}
use Rattle.iot_bytes.specs.declared.memory.ReadError.TheVariants as read
use Rattle.run_loop.specs.declared.halt.SendStop.{SendStop}
use Rattle.run_loop.specs.Status.{send_status}
use Rattle.line_loop.specs.declared.halt.NoLine.{NoLine}
use Rattle.line_loop.specs.declared.halt.NoLine.TheVariants as reading
use Rattle.line_loop.specs.declared.halt.LineStop.{LineStop}
use Rattle.line_loop.specs.declared.halt.LineStop.TheVariants as handling
use Rattle.line_loop.specs.declared.halt.EndStop.{EndStop}
use Rattle.line_loop.specs.declared.halt.EndStop.TheVariants as ending
use Rattle.line_loop.specs.declared.halt.Halt.{Halt}
use Rattle.line_loop.specs.declared.halt.Halt.TheVariants.{Reading, Handling, Ending, Sending}

-- The status where there is no further line.
abbrev pub read_status : NoLine → ℕ
read_status reading.End = 0
read_status reading.Fault = 2
read_status reading.NoMemory = 6
read_status reading.Limit = 7

-- Why a line isn't handled that can't be read.
abbrev pub of_read : ReadError → LineStop
of_read read.Malformed = handling.Malformed
of_read read.NoMemory = handling.NoMemory

-- The status where a part doesn't handle a line.
abbrev pub line_status : LineStop → ℕ
line_status handling.ChipFault = 4
line_status handling.Malformed = 5
line_status handling.NoMemory = 6
line_status handling.Limit = 7
line_status handling.Unrecognised = 8

-- The status where the input may not end.
abbrev pub end_status : EndStop → ℕ
end_status ending.Missing = 5
end_status ending.NoMemory = 6

-- The status of each reason that no more lines are handled.
abbrev pub halt_status : Halt → ℕ
halt_status (Reading stop) = read_status stop
halt_status (Handling stop) = line_status stop
halt_status (Ending stop) = end_status stop
halt_status Sending = 3

-- The input was read to its end.
abbrev pub is_end : Halt → Bool
is_end (Reading reading.End) = true
is_end other = false

-- A stop line is written for it: for all but the end, want of memory and a fault of the sink.
abbrev pub has_stop_line : Halt → Bool
has_stop_line (Reading reading.End) = false
has_stop_line (Reading reading.Fault) = true
has_stop_line (Reading reading.NoMemory) = false
has_stop_line (Reading reading.Limit) = true
has_stop_line (Handling handling.ChipFault) = true
has_stop_line (Handling handling.Malformed) = true
has_stop_line (Handling handling.NoMemory) = false
has_stop_line (Handling handling.Limit) = true
has_stop_line (Handling handling.Unrecognised) = true
has_stop_line (Ending ending.Missing) = true
has_stop_line (Ending ending.NoMemory) = false
has_stop_line Sending = false

-- The exit status: that of the reason, or of what went wrong with the last text.
abbrev pub exit_status : Halt → Result (Unit {0}) SendStop → ℕ
exit_status halt (Ok done) = halt_status halt
exit_status halt (Err stop) = send_status stop
