use Rattle.package_codec.proofs.Replying.{after_legal, after_all_legal}
use Rattle.package_codec.proofs.InRange.{reads_in_range}
use Rattle.package_codec.proofs.replies.histories_stay_legal.Goals as goal

pub returns : goal.returns
returns c = record { one = after_legal reads_in_range; all = after_all_legal reads_in_range }
