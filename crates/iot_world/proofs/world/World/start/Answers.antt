use Rattle.std.proofs.Common.{rules}
use Rattle.iot_world.proofs.world.World.start.Goals as goal

pub returns-clause-begins : goal.returns-clause-begins
returns-clause-begins g c = c.start_with.ensures.begins (λ b. ((goal.Modem-dyn g (b.vtable, b.value)).shown_iccid b.value, (goal.Modem-dyn g (b.vtable, b.value)).refresh_count b.value)) (λ modem now left post. search rules)

pub returns-clause-kept : goal.returns-clause-kept
returns-clause-kept g c = c.start_with.ensures.kept (λ b. (goal.Modem-dyn g (b.vtable, b.value)).shown_iccid b.value) (λ modem now left post. search rules)
