use Rattle.small_card.specs.Fresh.{fresh}
use Rattle.euicc_core.proofs.Opened.{made, unmade, unformatted}
use Rattle.euicc_core.proofs.card.EuiccCard.personalise.Goals as goal

pub returns-in-Ok-answer-clause-chip : goal.returns-in-Ok-answer-clause-chip
returns-in-Ok-answer-clause-chip g c = λ told.
    made (fresh c.args.eid c.args.profiles) c.in-Ok.card _ _ _ _ (c.in-Ok.ensures.told told) c.in-Ok-answer.ensures.cause c.in-Ok-answer.ensures.told

pub returns-in-Err-answer-clause-chip : goal.returns-in-Err-answer-clause-chip
returns-in-Err-answer-clause-chip g c = λ told.
    unmade (fresh c.args.eid c.args.profiles) c.in-Ok.card _ _ _ _ (c.in-Ok.ensures.told told) c.in-Err-answer.ensures.cause c.in-Err-answer.ensures.told

pub returns-in-Err-clause-chip : goal.returns-in-Err-clause-chip
returns-in-Err-clause-chip g c = λ told. unformatted (fresh c.args.eid c.args.profiles) c.in-Err.error _ _ (c.in-Err.ensures.told told)
