use Rattle.undo_journal.proofs.BlockByBlock.{put_back-listed, put_back-others}
use Rattle.undo_journal.proofs.laws.blocks_are_put_back.Goals as goal

pub returns-clause-listed : goal.returns-clause-listed
returns-clause-listed c = put_back-listed

pub returns-clause-others : goal.returns-clause-others
returns-clause-others c = put_back-others
