use Rattle.small_card.proofs.Accepting.{legal_once}
use Rattle.package_codec.specs.Replies.{after_all}
use Rattle.package_codec.proofs.Replying.{after_all_legal}
use Rattle.package_codec.proofs.InRange.{reads_in_range}
use Rattle.package_codec.proofs.replies.counters_rise.Goals as goal

pub returns : goal.returns
returns c = λ h cs legal ranges. legal_once (after_all h cs) (after_all_legal reads_in_range h cs legal ranges)
