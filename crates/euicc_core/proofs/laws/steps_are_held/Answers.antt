use Rattle.euicc_core.proofs.Kept.{step_held}
use Rattle.euicc_core.proofs.laws.steps_are_held.Goals as goal

pub returns : goal.returns
returns g c = λ first h command m older held answers.
    step_held _ _ first h command m older (g.met.C.Chip.sound c.args._before.now held.told) (g.met.C.Chip.sound c.args._after.now answers.ended.told) held answers
