-- How a demonstration ends, by its status.
use Rattle.std.proofs.Common.{◌≡◌, ◌≢◌, ℕ, Result, Ok, Err, refl, sym, subst}
use Rattle.std.specs.Prelude.{IfErr}
use Rattle.line_loop.specs.Status.{exit_status, line_status}
use Rattle.line_loop.specs.declared.halt.LineStop.{LineStop}
use Rattle.line_loop.specs.declared.halt.LineStop.TheVariants.{ChipFault, Malformed, Limit, Unrecognised, NoMemory}
use Rattle.run_loop.specs.declared.halt.SendStop.{SendStop}
use Rattle.run_loop.specs.declared.halt.SendStop.TheVariants as sending
use Rattle.world_forms.specs.Demos.{halt_of}
use Rattle.world_forms.specs.declared.playing.Stopped.{Stopped}
use Rattle.world_forms.specs.declared.tally.Tally.{Tally}

-- the status isn't that of other words, of a source that failed, or of a malformed line
abbrev pub IsOwn : ℕ → Type 0
IsOwn status = (status ≢ 1) × (status ≢ 2) × (status ≢ 5)

stop_own : (stop : LineStop) → stop ≢ Malformed → IsOwn (line_status stop)
stop_own ChipFault fits = (λ e. absurd cc, λ e. absurd cc, λ e. absurd cc)
stop_own Malformed fits = absurd (fits refl)
stop_own Limit fits = (λ e. absurd cc, λ e. absurd cc, λ e. absurd cc)
stop_own Unrecognised fits = (λ e. absurd cc, λ e. absurd cc, λ e. absurd cc)
stop_own NoMemory fits = (λ e. absurd cc, λ e. absurd cc, λ e. absurd cc)

ends_with_own : (end : Result Tally Stopped) (closing : Result (Unit {0}) SendStop) → IfErr end (λ at. at.stop ≢ Malformed) → IsOwn (exit_status (halt_of end) closing)
ends_with_own (Ok tally) (Ok done) fits = (λ e. absurd cc, λ e. absurd cc, λ e. absurd cc)
ends_with_own (Err at) (Ok done) fits = stop_own at.stop fits
ends_with_own end (Err sending.Fault) fits = (λ e. absurd cc, λ e. absurd cc, λ e. absurd cc)
ends_with_own end (Err sending.NoMemory) fits = (λ e. absurd cc, λ e. absurd cc, λ e. absurd cc)

pub ends_own : (end : Result Tally Stopped) (closing : Result (Unit {0}) SendStop) (status : ℕ) → status ≡ exit_status (halt_of end) closing → IfErr end (λ at. at.stop ≢ Malformed) → IsOwn status
ends_own end closing status says fits = subst IsOwn (sym says) (ends_with_own end closing fits)

-- status 3 is that of a sink that failed
stop_three : (stop : LineStop) → line_status stop ≢ 3
stop_three ChipFault e = absurd cc
stop_three Malformed e = absurd cc
stop_three Limit e = absurd cc
stop_three Unrecognised e = absurd cc
stop_three NoMemory e = absurd cc

pub ends_three : (end : Result Tally Stopped) (closing : Result (Unit {0}) SendStop) → exit_status (halt_of end) closing ≡ 3 → closing ≡ Err sending.Fault
ends_three (Ok tally) (Ok done) e = absurd cc
ends_three (Err at) (Ok done) e = absurd (stop_three at.stop e)
ends_three end (Err sending.Fault) e = refl
ends_three end (Err sending.NoMemory) e = absurd cc

-- and status 4 that of a chip that failed
stop_four : (stop : LineStop) → line_status stop ≡ 4 → stop ≡ ChipFault
stop_four ChipFault e = refl
stop_four Malformed e = absurd cc
stop_four Limit e = absurd cc
stop_four Unrecognised e = absurd cc
stop_four NoMemory e = absurd cc

pub ends_four : (P : Type 0) (end : Result Tally Stopped) (closing : Result (Unit {0}) SendStop) → IfErr end (λ at. at.stop ≡ ChipFault → P) → exit_status (halt_of end) closing ≡ 4 → P
ends_four P (Ok tally) (Ok done) cause e = absurd cc
ends_four P (Err at) (Ok done) cause e = cause (stop_four at.stop e)
ends_four P end (Err sending.Fault) cause e = absurd cc
ends_four P end (Err sending.NoMemory) cause e = absurd cc
