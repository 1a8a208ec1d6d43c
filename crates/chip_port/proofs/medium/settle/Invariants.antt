use Rattle.std.proofs.Common.{◌≤◌, length, take, reverse}
use Rattle.chip_port.specs.Medium.{Agree}
use Rattle.chip_port.proofs.medium.settle.Given as goal

abbrev pub invariant-loop-left : goal.invariant-loop-left
invariant-loop-left l = (l.left ≤ length l.records) × Agree 346624 (reverse (take l.left l.records)) l.image l.content

abbrev pub decreases-loop-left : goal.decreases-loop-left
decreases-loop-left l = l.left
