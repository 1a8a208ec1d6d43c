use Rattle.euicc_core.proofs.Kept.{opening_held}
use Rattle.euicc_core.proofs.laws.openings_are_held.Goals as goal

pub returns : goal.returns
returns g c = λ first h m older u v held either answers.
    opening_held _ _ first h m older u v (g.met.C.Chip.sound c.args._before.now held.told) (g.met.C.Chip.sound c.args._after.now answers.ended.told) held either answers
