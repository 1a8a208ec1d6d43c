use Rattle.std.proofs.Common.{arith}
use Rattle.small_card.specs.declared.limits.TheConstants.{MOST_PENDING}
use Rattle.small_card.proofs.NumberTests.{numbered_exactly}
use Rattle.small_card.proofs.PairTests.{rising_pairs}
use Rattle.result_store.proofs.store.Store.fits.Goals as goal

pub returns : goal.returns
returns c = record { exact = rw c.are_numbered.ensures (numbered_exactly rising_pairs MOST_PENDING (λ r. r.seq) c.args.next c.args.pending.now (omega arith)) }
