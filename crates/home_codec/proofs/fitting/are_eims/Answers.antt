use Rattle.std.proofs.Common.{arith}
use Rattle.home_codec.proofs.Parts.{same_eims}
use Rattle.home_codec.proofs.fitting.are_eims.Goals as goal

pub returns : goal.returns
returns c = same_eims c.fits.result (record { entries = c.args.entries.now; next = c.args.next }) (omega arith) c.fits.ensures.exact
