use Rattle.std.proofs.Common.{refl}
use Rattle.package_codec.specs.Replies.{after}
use Rattle.package_codec.proofs.InRange.{reads_in_range}
use Rattle.package_codec.proofs.Replying.{unit_may}
use Rattle.package_codec.proofs.replies.units_may_happen.Goals as goal

pub returns : goal.returns
unfolding after
returns c = record { may = unit_may reads_in_range; grown = λ h c. refl }
