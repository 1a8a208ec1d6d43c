use Rattle.result_store.proofs.Keeping.{calls_store}
use Rattle.result_store.proofs.laws.stays_a_store.Goals as goal

pub returns : goal.returns
returns c = calls_store
