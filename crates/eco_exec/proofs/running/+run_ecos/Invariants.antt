use Rattle.std.proofs.Common.{length}
use Rattle.eco_exec.proofs.running.+run_ecos.Given as goal

abbrev pub decreases-run_ecos : goal.decreases-run_ecos
decreases-run_ecos l = length l.ops.now
