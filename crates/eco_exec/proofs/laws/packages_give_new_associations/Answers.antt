use Rattle.eco_exec.proofs.Giving.{run_new}
use Rattle.eco_exec.proofs.laws.packages_give_new_associations.Goals as goal

pub returns : goal.returns
returns c = record { new = λ ms ops. run_new ops ms }
