use Rattle.card_store.proofs.Holding.{answer_held}
use Rattle.card_store.proofs.laws.answers_are_held.Goals as goal

pub returns : goal.returns
returns g c = λ first n h m older u v held either run.
    answer_held _ _ first n h m older u v (g.met.C.Chip.sound c.args._before.now held.told) (g.met.C.Chip.sound c.args._after.now run.told) held either run
