use Rattle.small_world.proofs.Numbering.{numbered}
use Rattle.small_world.proofs.Keeping.{pending_newest}
use Rattle.small_world.proofs.laws.newest_forms_lead.Goals as goal

pub returns-clause-lead : goal.returns-clause-lead
returns-clause-lead c = λ h l e. (numbered h l e).lead

pub returns-clause-pending : goal.returns-clause-pending
returns-clause-pending c = pending_newest
