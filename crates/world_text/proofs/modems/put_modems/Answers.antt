use Rattle.std.proofs.Common.{rules}
use Rattle.world_text.proofs.modems.put_modems.Goals as goal

pub returns-clause-err : goal.returns-clause-err
returns-clause-err g c = c.put_modems_by.ensures.err (λ b. ((goal.Modem-dyn g (b.vtable, b.value)).shown_iccid b.value, (goal.Modem-dyn g (b.vtable, b.value)).refresh_count b.value)) (λ out modem result left post. search rules)
