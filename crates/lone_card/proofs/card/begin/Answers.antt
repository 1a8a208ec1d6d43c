use Rattle.std.proofs.Common.{None}
use Rattle.lone_card.proofs.Chips.{idle}
use Rattle.lone_card.proofs.card.begin.Goals as goal

pub returns-in-Load-clause-chip : goal.returns-in-Load-clause-chip
returns-in-Load-clause-chip g c = idle _ None

pub returns-in-Initial-clause-chip : goal.returns-in-Initial-clause-chip
returns-in-Initial-clause-chip g c = idle _ None

pub returns-in-Remove-clause-chip : goal.returns-in-Remove-clause-chip
returns-in-Remove-clause-chip g c = idle _ None

pub returns-clause-chip : goal.returns-clause-chip
returns-clause-chip g c = idle _ None
