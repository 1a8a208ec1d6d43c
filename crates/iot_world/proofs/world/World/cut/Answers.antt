use Rattle.iot_world.proofs.Powering.{cuts, cut_short}
use Rattle.iot_world.proofs.world.World.cut.Goals as goal

pub returns-in-Ok-clause-acts : goal.returns-in-Ok-clause-acts
returns-in-Ok-clause-acts g c = λ first w stands.
    cuts first w c.args.calls c.args.tear c.put_word.result _ _ _ _ _ stands.network (c.in-Ok.ensures.planned first w stands.card) c.put_word.ensures

pub returns-in-Err-clause-acts : goal.returns-in-Err-clause-acts
returns-in-Err-clause-acts g c = λ first w stands.
    cut_short first w c.args.calls c.args.tear c.args.self.now _ _ _ (c.in-Err.ensures.planned first w stands.card)
