use Rattle.eim_table.proofs.Numbering.{ops_new}
use Rattle.eim_table.proofs.laws.associations_are_new.Goals as goal

pub returns : goal.returns
returns c = record { new = λ ms ops. ops_new ops ms }
