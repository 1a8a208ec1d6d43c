use Rattle.euicc_core.proofs.Closed.{closed_same, lost_same}
use Rattle.euicc_core.proofs.answering.answer_same.Goals as goal

pub returns-in-Ok-answer-clause-told : goal.returns-in-Ok-answer-clause-told
returns-in-Ok-answer-clause-told g c = λ told card settled.
    closed_same card _ _ _ _ told settled (c.in-Ok.ensures.told told) c.in-Ok-answer.ensures.cause c.in-Ok-answer.ensures.told

pub returns-in-Err-clause-told : goal.returns-in-Err-clause-told
returns-in-Err-clause-told g c = λ told card settled.
    lost_same card _ _ _ _ told settled (c.in-Ok.ensures.told told) c.in-Err.ensures.cause c.in-Err.ensures.told
