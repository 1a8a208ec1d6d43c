use Rattle.std.proofs.Common.{arith}
use Rattle.std.proofs.lemmas.Nat.{mod_below}
use Rattle.esipa_codec.specs.Assistant.{failures, strikes}
use Rattle.esipa_codec.proofs.laws.strikes_are_few.Goals as goal

pub returns : goal.returns
unfolding strikes
returns c = record { few = λ events. let l = mod_below (failures events) 3 (omega arith) in omega (arith, l) }
