use Rattle.std.proofs.Common.{refl, inr}
use Rattle.run_loop.specs.declared.reading.TheConstants.{MOST_FRAMES}
use Rattle.run_loop.proofs.reading.no_further.Goals as goal
use Rattle.run_loop.proofs.reading.no_further.Goals.{in-Ok, in-Err}

pub returns-clause-none : goal.returns-clause-none
returns-clause-none g c =
    elim c.match-next_frame.branch [
      | in-Ok w ↦ λ octets is. rw w.result-is (inr (refl, (w.in-Ok.field-0, w.in-Ok.ensures.next MOST_FRAMES octets is)))
      | in-Err w ↦ rw w.result-is (w.in-Err.ensures.next MOST_FRAMES)
    ]
