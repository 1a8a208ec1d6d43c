use Rattle.modem_bank.proofs.Telling.{map-without}
use Rattle.modem_bank.proofs.bank.detach.Goals as goal

pub returns-clause-seen : goal.returns-clause-seen
returns-clause-seen g c = rw c.detach_at.ensures.left (map-without _ c.args.at c.args.modems.now.items)
