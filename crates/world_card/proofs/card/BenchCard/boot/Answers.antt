use Rattle.std.proofs.Common.{◌∙◌}
use Rattle.world_card.proofs.Booting.{reopened, stayed_off}
use Rattle.world_card.proofs.card.BenchCard.boot.Goals as goal

pub returns-in-Ok-clause-boots : goal.returns-in-Ok-clause-boots
returns-in-Ok-clause-boots g c = λ first w stands.
    let told = stands.bench.told in
    let e = c.in-Ok.ensures in
    let awake = e.cause.told ∙ told in
    let opened = c.open-end.ensures in
    let now = opened.cause.told ∙ awake in
    reopened _ first w c.open-end.result _ c.open-end.new.self _ _ _ _ (g.met.B.Chip.sound c.args.bench.now told) (g.met.B.Chip.sound c.power_on.new.self awake) (g.met.B.Chip.sound c.open-end.new.bench now) stands e.cause (e.told told)
    opened.cause opened.dark (opened.reopens awake) (c.drop_plan.ensures.told now)

pub returns-in-Err-clause-boots : goal.returns-in-Err-clause-boots
returns-in-Err-clause-boots g c = λ first w stands.
    let told = stands.bench.told in
    let e = c.in-Err.ensures in
    stayed_off _ first w _ _ _ _ (g.met.B.Chip.sound c.args.bench.now told) stands e.cause (e.told told) (c.drop_plan-in-Err.ensures.told (e.cause.told ∙ told))
