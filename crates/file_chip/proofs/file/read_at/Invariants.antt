use Rattle.std.proofs.Common.{◌≤◌, length}
use Rattle.file_chip.proofs.file.read_at.Given as goal

abbrev pub invariant-loop : goal.invariant-loop
invariant-loop g l = l.done ≤ length l.out
