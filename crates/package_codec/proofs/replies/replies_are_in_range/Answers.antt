use Rattle.package_codec.proofs.Replying.{reply_fits}
use Rattle.package_codec.proofs.InRange.{reads_in_range}
use Rattle.package_codec.proofs.replies.replies_are_in_range.Goals as goal

pub returns : goal.returns
returns c = reply_fits reads_in_range
