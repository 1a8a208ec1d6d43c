use Rattle.iot_world.proofs.Carrying.{alone_asked, carried_err}
use Rattle.iot_world.proofs.world.World.carry_alone.Goals as goal

pub returns-in-Ok-clause-acts : goal.returns-in-Ok-clause-acts
returns-in-Ok-clause-acts g c = λ first w l e k prints stands.
    alone_asked first w l e c.args.command c.in-Ok.field-0 _ _ _ _ _ k prints (c.in-Ok.ensures.asked first _ stands)

pub returns-in-Err-clause-acts : goal.returns-in-Err-clause-acts
returns-in-Err-clause-acts g c = λ first w l e k prints stands.
    carried_err first w l e c.args.command c.in-Err.halt _ _ _ _ _ _ k (c.in-Err.ensures.asked first _ stands)
