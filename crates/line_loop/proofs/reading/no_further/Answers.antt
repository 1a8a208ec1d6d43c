use Rattle.std.proofs.Common.{refl, inr}
use Rattle.line_loop.specs.declared.reading.TheConstants.{MOST_LINES}
use Rattle.line_loop.proofs.reading.no_further.Goals as goal
use Rattle.line_loop.proofs.reading.no_further.Goals.{in-Ok, in-Err}

pub returns-clause-none : goal.returns-clause-none
returns-clause-none g c =
    elim c.match-next_line.branch [
      | in-Ok w ↦ λ octets is.
          let (rest, taken, now) = w.in-Ok.ensures.next MOST_LINES octets is in
          rw w.result-is (inr (refl, record { line = w.in-Ok.field-0; rest = rest; taken = taken; now = now }))
      | in-Err w ↦ rw w.result-is (w.in-Err.ensures.next MOST_LINES)
    ]
