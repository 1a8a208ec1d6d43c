use Rattle.std.proofs.Common.{arith}
use Rattle.home_codec.proofs.Parts.{same_store}
use Rattle.home_codec.proofs.fitting.is_store.Goals as goal

pub returns : goal.returns
returns c = same_store c.fits.result (record { pending = c.args.pending.now; next = c.args.next }) (omega arith) c.fits.ensures.exact
