use Rattle.std.proofs.Common.{rules}
use Rattle.modem_bank.proofs.bank.tell.Goals as goal

pub returns-clause-kept : goal.returns-clause-kept
returns-clause-kept g c = c.tell_each.ensures.kept (λ b. (goal.Modem-dyn g (b.vtable, b.value)).shown_iccid b.value) (λ modem now left post. search rules)
