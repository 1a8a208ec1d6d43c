use Rattle.std.proofs.Common.{None}
use Rattle.lone_card.proofs.Chips.{idle}
use Rattle.lone_card.proofs.card.begin_by_frame.Goals as goal

pub returns-in-Err-Malformed-clause-chip : goal.returns-in-Err-Malformed-clause-chip
returns-in-Err-Malformed-clause-chip g c = idle _ None

pub returns-in-Err-NoMemory-clause-chip : goal.returns-in-Err-NoMemory-clause-chip
returns-in-Err-NoMemory-clause-chip g c = idle _ None
