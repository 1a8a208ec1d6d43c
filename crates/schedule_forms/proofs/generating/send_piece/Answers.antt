use Rattle.schedule_forms.proofs.Piecing.{passed_by}
use Rattle.schedule_forms.proofs.generating.send_piece.Goals as goal

pub returns-clause-passed : goal.returns-clause-passed
returns-clause-passed g c = λ sent0 start count p. passed_by start count sent0 _ _ c.send_all.result (c.send_all.ensures.flushed sent0 start count p)
