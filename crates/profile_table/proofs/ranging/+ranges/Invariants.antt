use Rattle.std.proofs.Common.{length}
use Rattle.profile_table.proofs.ranging.+ranges.Given as goal

abbrev pub decreases-ranges : goal.decreases-ranges
decreases-ranges l = length l.profiles.now
