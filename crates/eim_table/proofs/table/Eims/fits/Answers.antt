use Rattle.std.proofs.Common.{arith}
use Rattle.small_card.specs.declared.limits.TheConstants.{MOST_EIMS}
use Rattle.small_card.proofs.NumberTests.{numbered_exactly}
use Rattle.small_card.proofs.PairTests.{entry_pairs}
use Rattle.eim_table.proofs.table.Eims.fits.Goals as goal

pub returns : goal.returns
returns c = record { exact = rw c.are_numbered.ensures (numbered_exactly entry_pairs MOST_EIMS (λ e. e.association) c.args.next c.args.entries.now (omega arith)) }
