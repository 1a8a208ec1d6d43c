use Rattle.home_codec.specs.FullCards.{full_card}
use Rattle.euicc_core.proofs.Closed.{closed_unit, lost_unit, unwritten_unit}
use Rattle.euicc_core.proofs.answering.unit.Goals as goal

pub returns-in-Ok-answer-clause-told : goal.returns-in-Ok-answer-clause-told
returns-in-Ok-answer-clause-told g c = λ told.
    closed_unit (full_card c.args.old.now) (full_card c.args.new) _ _ _ _ (c.in-Ok.ensures.told told) c.in-Ok-answer.ensures.cause c.in-Ok-answer.ensures.told

pub returns-in-Err-answer-clause-told : goal.returns-in-Err-answer-clause-told
returns-in-Err-answer-clause-told g c = λ told.
    lost_unit (full_card c.args.old.now) (full_card c.args.new) _ _ _ _ (c.in-Ok.ensures.told told) c.in-Err-answer.ensures.cause c.in-Err-answer.ensures.told

pub returns-in-Err-clause-told : goal.returns-in-Err-clause-told
returns-in-Err-clause-told g c = λ told.
    unwritten_unit (full_card c.args.old.now) (full_card c.args.new) c.in-Err.error _ _ (c.in-Err.ensures.told told)
