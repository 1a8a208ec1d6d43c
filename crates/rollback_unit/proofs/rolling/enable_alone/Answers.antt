use Rattle.rollback_unit.proofs.Enabling.{enable_leaves, left_alone}
use Rattle.rollback_unit.proofs.rolling.enable_alone.Goals as goal

pub returns-clause-profiles : goal.returns-clause-profiles
returns-clause-profiles c = enable_leaves _ _ _ _ c.in_range.ensures.table c.requires c.enable.ensures.operation

pub returns-clause-alone : goal.returns-clause-alone
returns-clause-alone c = left_alone _ _ _ c.requires (enable_leaves _ _ _ _ c.in_range.ensures.table c.requires c.enable.ensures.operation)
