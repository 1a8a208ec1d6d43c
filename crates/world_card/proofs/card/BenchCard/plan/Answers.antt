use Rattle.world_card.proofs.Planning.{planned}
use Rattle.world_card.proofs.card.BenchCard.plan.Goals as goal

pub returns-clause-planned : goal.returns-clause-planned
returns-clause-planned g c = λ first w stands.
    planned first w c.args.calls c.args.tear c.plan_cut.result _ _ _ stands c.plan_cut.ensures.done c.plan_cut.ensures.refused
