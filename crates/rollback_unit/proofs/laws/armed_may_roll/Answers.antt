use Rattle.rollback_unit.proofs.Permitting.{valid_may_roll}
use Rattle.rollback_unit.proofs.laws.armed_may_roll.Goals as goal

pub returns : goal.returns
returns c = valid_may_roll
