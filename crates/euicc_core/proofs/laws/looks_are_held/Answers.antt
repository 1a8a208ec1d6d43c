use Rattle.euicc_core.proofs.Kept.{look_held}
use Rattle.euicc_core.proofs.laws.looks_are_held.Goals as goal

pub returns : goal.returns
returns g c = λ n first h marks looks holds. look_held _ _ n first h marks looks holds
