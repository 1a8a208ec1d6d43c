use Rattle.result_store.proofs.Keeping.{valid_store}
use Rattle.result_store.proofs.Testing.{valid_ranges, store_valid}
use Rattle.result_store.proofs.laws.results_stand.Goals as goal

pub returns : goal.returns
returns c = record { stand = valid_store; ranges = valid_ranges; valid = store_valid }
