use Rattle.std.proofs.Common.{arith}
use Rattle.card_store.proofs.Compared.{between_few}
use Rattle.card_store.proofs.staging.count_of.Goals as goal

pub returns-clause-few : goal.returns-clause-few
returns-clause-few c = omega (arith, c.len.ensures, between_few 0 c.args.changes.now.blocks 673 c.requires.blocks)
