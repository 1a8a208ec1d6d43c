use Rattle.euicc_core.specs.declared.ends.OpenError.TheVariants.{Failed}
use Rattle.lone_card.proofs.Serving.{opened_by}
use Rattle.lone_card.proofs.run.open.Goals as goal

pub returns-in-Ok : goal.returns-in-Ok
returns-in-Ok g c =
    opened_by Failed c.in-Ok.card c.with.result _ _ (g.met.C.Chip.sound c.args.chip.now) (g.met.C.Chip.sound c.power_up.new.chip) c.with.ensures c.in-Ok.ensures.lit c.in-Ok.ensures.cause c.in-Ok.ensures.chip c.in-Ok.ensures.settled
