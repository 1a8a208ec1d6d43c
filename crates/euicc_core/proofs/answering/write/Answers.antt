use Rattle.std.proofs.Common.{◌∙◌}
use Rattle.home_codec.specs.FullCards.{full_card}
use Rattle.euicc_core.proofs.Closed.{not_staged, committed, uncommitted}
use Rattle.euicc_core.proofs.answering.write.Goals as goal

pub returns-in-Ok-commit-clause-told : goal.returns-in-Ok-commit-clause-told
returns-in-Ok-commit-clause-told g c = λ told.
    let t = c.in-Ok.ensures.told told in
    committed (full_card c.args.old.now) (full_card c.args.new) c.in-Ok.staged _ _ _ c.in-Ok.ensures.card (c.requires.settled told) t.0 (c.in-Ok-commit.ensures.told (c.in-Ok.ensures.cause.told ∙ told) (full_card c.args.old.now) t.1)

pub returns-in-Err-commit-clause-told : goal.returns-in-Err-commit-clause-told
returns-in-Err-commit-clause-told g c = λ told.
    let t = c.in-Ok.ensures.told told in
    uncommitted (full_card c.args.old.now) (full_card c.args.new) c.in-Ok.staged _ _ _ c.in-Ok.ensures.card (c.requires.settled told) t.0 (c.in-Err-commit.ensures.told (c.in-Ok.ensures.cause.told ∙ told) (full_card c.args.old.now) t.1)

pub returns-in-Err-clause-told : goal.returns-in-Err-clause-told
returns-in-Err-clause-told g c = λ told.
    not_staged (full_card c.args.old.now) (full_card c.args.new) c.in-Err.error _ _ told (c.requires.settled told) (c.in-Err.ensures.told told)
