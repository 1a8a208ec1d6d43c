use Rattle.package_codec.proofs.Replying.{loaded_pending}
use Rattle.package_codec.proofs.replies.results_go_last.Goals as goal

pub returns : goal.returns
returns c = loaded_pending
