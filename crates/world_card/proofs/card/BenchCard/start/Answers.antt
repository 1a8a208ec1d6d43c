use Rattle.std.proofs.Common.{◌∙◌}
use Rattle.world_card.proofs.Starting.{card_started, start_refused}
use Rattle.world_card.proofs.card.BenchCard.start.Goals as goal

pub returns-in-Ok-clause-starts : goal.returns-in-Ok-clause-starts
returns-in-Ok-clause-starts g c = λ told.
    let dropped = c.drop_plan.ensures.told told in
    let awake = dropped.told ∙ told in
    card_started _ c.in-Ok.card _ _ _ _ (g.met.B.Chip.sound c.drop_plan.new.self awake) (g.met.B.Chip.sound c.personalise.new.chip (c.in-Ok.ensures.cause.told ∙ awake)) told dropped c.in-Ok.ensures.fresh (c.in-Ok.ensures.chip awake)

pub returns-in-Err-clause-starts : goal.returns-in-Err-clause-starts
returns-in-Err-clause-starts g c = λ told.
    let dropped = c.drop_plan.ensures.told told in
    start_refused (record { eid = c.args.eid; profiles = c.args.profiles }) _ c.in-Err.error _ _ _ told dropped (c.in-Err.ensures.chip (dropped.told ∙ told))
