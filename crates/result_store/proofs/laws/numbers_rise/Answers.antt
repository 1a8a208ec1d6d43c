use Rattle.result_store.proofs.Rising.{numbers_go_up}
use Rattle.result_store.proofs.laws.numbers_rise.Goals as goal

pub returns : goal.returns
returns c = numbers_go_up
