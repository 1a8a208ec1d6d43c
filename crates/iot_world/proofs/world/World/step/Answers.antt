use Rattle.std.proofs.Common.{rules}
use Rattle.iot_world.proofs.world.World.step.Goals as goal

pub returns-clause-turns : goal.returns-clause-turns
returns-clause-turns g c = λ first w stands. c.step_with.ensures.turns first w (λ b. ((goal.Modem-dyn g (b.vtable, b.value)).shown_iccid b.value, (goal.Modem-dyn g (b.vtable, b.value)).refresh_count b.value)) (λ modem now left post. search rules) (λ out modem result left post. search rules) stands

pub returns-clause-kept : goal.returns-clause-kept
returns-clause-kept g c = c.step_with.ensures.kept (λ b. (goal.Modem-dyn g (b.vtable, b.value)).shown_iccid b.value) (λ modem now left post. search rules)
