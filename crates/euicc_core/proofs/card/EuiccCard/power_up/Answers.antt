use Rattle.euicc_core.proofs.Opened.{opened, unanswered, unopened}
use Rattle.euicc_core.proofs.card.EuiccCard.power_up.Goals as goal

pub returns-in-Ok-answer-clause-chip : goal.returns-in-Ok-answer-clause-chip
returns-in-Ok-answer-clause-chip g c = λ told.
    opened c.in-Ok.card _ _ _ _ (g.met.C.Chip.sound c.args.chip.now told) (c.in-Ok.ensures.told told) c.in-Ok-answer.ensures.cause c.in-Ok-answer.ensures.told

pub returns-in-Err-answer-clause-chip : goal.returns-in-Err-answer-clause-chip
returns-in-Err-answer-clause-chip g c = λ told.
    unanswered c.in-Ok.card _ _ _ _ (g.met.C.Chip.sound c.args.chip.now told) (c.in-Ok.ensures.told told) c.in-Err-answer.ensures.cause c.in-Err-answer.ensures.told

pub returns-in-Err-clause-chip : goal.returns-in-Err-clause-chip
returns-in-Err-clause-chip g c = λ told. rw c.of_load.ensures (unopened c.in-Err.end _ _ (c.in-Err.ensures.told told))
