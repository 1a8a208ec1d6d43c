use Rattle.iot_schedule.proofs.Splitting.{ended_both}
use Rattle.iot_schedule.proofs.words.Words.ended.Goals as goal

pub returns : goal.returns
returns c = rw (← c.self.view_is) (ended_both _ c.is_empty.result c.is_empty.ensures)
