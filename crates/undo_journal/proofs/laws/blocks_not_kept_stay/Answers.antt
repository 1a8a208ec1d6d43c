use Rattle.undo_journal.proofs.BlockByBlock.{others_stay}
use Rattle.undo_journal.proofs.laws.blocks_not_kept_stay.Goals as goal

pub returns : goal.returns
returns c = others_stay
