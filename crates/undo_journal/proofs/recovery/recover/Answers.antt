use Rattle.std.proofs.Common.{◌∙◌, sym}
use Rattle.undo_journal.proofs.Whole.{idle_if, begun_err, begun_shut, rolled}
use Rattle.undo_journal.proofs.recovery.recover.Goals as goal

pub returns-in-Ok-true-clause-told : goal.returns-in-Ok-true-clause-told
returns-in-Ok-true-clause-told g c = λ told.
    let begun = rw c.in-Ok-true.field-0-test at (c.in-Ok-true.ensures.told told) in
    rolled c.roll_back.result _ _ _ told (g.met.C.Chip.sound c.args.chip.now told).counts_now begun (c.roll_back.ensures.told begun.ran.told)

pub returns-in-Ok-false-clause-told : goal.returns-in-Ok-false-clause-told
returns-in-Ok-false-clause-told g c = λ told.
    begun_shut _ _ told (g.met.C.Chip.sound c.args.chip.now told).counts_now (rw c.in-Ok-false.field-0-test at (c.in-Ok-false.ensures.told told))

pub returns-in-Err-clause-told : goal.returns-in-Err-clause-told
returns-in-Err-clause-told g c = λ told. begun_err c.in-Err.end _ _ told (g.met.C.Chip.sound c.args.chip.now told).counts_now (c.in-Err.ensures.told told)

pub returns-in-Ok-true-clause-idle : goal.returns-in-Ok-true-clause-idle
returns-in-Ok-true-clause-idle g c = idle_if c.roll_back.result _ _ (λ told.
    let told0 = sym c.in-Ok-true.ensures.cause.told ∙ sym c.roll_back.ensures.cause.told ∙ told in
    let begun = rw c.in-Ok-true.field-0-test at (c.in-Ok-true.ensures.told told0) in
    c.roll_back.ensures.told begun.ran.told)

pub returns-in-Ok-false-clause-idle : goal.returns-in-Ok-false-clause-idle
returns-in-Ok-false-clause-idle g c = λ told.
    let told0 = sym c.in-Ok-false.ensures.cause.told ∙ told in
    (begun_shut _ _ told0 (g.met.C.Chip.sound c.args.chip.now told0).counts_now (rw c.in-Ok-false.field-0-test at (c.in-Ok-false.ensures.told told0))).done.idle
