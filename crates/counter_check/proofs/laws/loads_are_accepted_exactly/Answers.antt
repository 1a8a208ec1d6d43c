use Rattle.counter_check.proofs.Accepting.{acceptable, accepted_so}
use Rattle.counter_check.proofs.laws.loads_are_accepted_exactly.Goals as goal

pub returns : goal.returns
returns c = record { accepted = acceptable; exact = accepted_so }
