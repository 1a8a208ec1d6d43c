use Rattle.std.proofs.Common.{refl}
use Rattle.chip_port.proofs.Steps.{synced_in}
use Rattle.chip_port.proofs.mem.MemChipChip.sync.Goals as goal

pub returns-in-Pass-clause-told : goal.returns-in-Pass-clause-told
returns-in-Pass-clause-told c = λ told. synced_in _ _ _ _ _ _ _ _ c.args.self.now.inside c.sync.ensures.past c.in-Pass.ensures.tally (c.in-Pass.ensures.passes refl) (c.in-Pass.ensures.calm refl)
