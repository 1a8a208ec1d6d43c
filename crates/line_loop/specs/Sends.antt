-- What was sent.
use Rattle.std.specs.Prelude.{ℕ, List, ◌++◌, codes, Option, Result, Ok, Err}
use Rattle.std.specs.Fmt.{decimal}
use Rattle.run_loop.specs.Sends.{HasSent, HasSentInto}
use Rattle.run_loop.specs.declared.halt.SendStop.{SendStop}
use Rattle.run_loop.specs.declared.halt.SendStop.TheVariants.{Fault, NoMemory}

-- The stop line, with its end.
unfoldable pub stop_line : ℕ → ℕ → List ℕ
stop_line status number = codes "stopped " ++ decimal status ++ codes " " ++ decimal number ++ codes "\n"

-- A text was sent, and then the closing text, which is there: whole, or not whole, since the sink failed.
abbrev pub SentBehind : Option (List ℕ) → Option (List ℕ) → List ℕ → List ℕ → Result (Unit {0}) SendStop → Type 0
SentBehind old now text last (Ok done) = HasSent old now (text ++ last)
SentBehind old now text last (Err Fault) = HasSentInto old now text last
SentBehind old now text last (Err NoMemory) = ⊥
