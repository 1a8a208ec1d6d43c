use Rattle.std.proofs.Common.{◌≡◌, ◌+◌, length}
use Rattle.sgp_der.specs.Number.{uint}
use Rattle.sgp_der.proofs.number.uint_len.Given as goal

abbrev pub invariant-loop-left : goal.invariant-loop-left
invariant-loop-left l = l.len + length (uint l.left) ≡ 1 + length (uint l.n)

abbrev pub decreases-loop-left : goal.decreases-loop-left
decreases-loop-left l = l.left
