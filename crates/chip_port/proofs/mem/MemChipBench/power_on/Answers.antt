use Rattle.std.proofs.Common.{◌∙◌, ap}
use Rattle.chip_port.proofs.Steps.{woken_in, woken_still}
use Rattle.chip_port.proofs.mem.MemChipBench.power_on.Goals as goal
use Rattle.chip_port.proofs.mem.MemChipBench.power_on.Goals.{then-not-self, else-not-self}

pub returns-clause-told : goal.returns-clause-told
returns-clause-told c = λ told. elim c.if-not-self.branch [
  | then-not-self w ↦ woken_in _ _ _ _ _ _ c.args.self.now.inside (ap (λ s. s.1.0.past) w.self-is ∙ w.power_cycle.ensures.past)
  | else-not-self w ↦ woken_still _ _ _ _ _ (c.args.self.now.woken_is ∙ w.if-not-self.false) (ap (λ s. s.1.0.past) w.self-is)
]
