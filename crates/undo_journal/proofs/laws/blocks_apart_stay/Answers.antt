use Rattle.undo_journal.proofs.Keeping.{others_written}
use Rattle.undo_journal.proofs.laws.blocks_apart_stay.Goals as goal

pub returns : goal.returns
returns c = λ block other old new t apart. others_written block other old new t apart
