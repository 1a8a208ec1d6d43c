use Rattle.std.proofs.Common.{sym, ◌∙◌}
use Rattle.undo_journal.proofs.Idle.{idle_untouched}
use Rattle.undo_journal.proofs.tests.ready.Goals as goal

pub returns-clause-idle : goal.returns-clause-idle
returns-clause-idle g c = λ told.
    let planned = c.in-Ok-plan_cut.ensures in
    let told2 = sym planned.quiet.told ∙ told in
    let told1 = sym c.in-Ok-prepare.ensures.room.told ∙ told2 in
    idle_untouched (idle_untouched (c.in-Ok.ensures.idle told1) (c.in-Ok-prepare.ensures.told told1)) (planned.done told2)
