use Rattle.iot_world.proofs.Carrying.{also_asked, carried_err, carried_silent}
use Rattle.iot_world.proofs.world.World.carry.Goals as goal

pub returns-in-Ok-Answered-clause-acts : goal.returns-in-Ok-Answered-clause-acts
returns-in-Ok-Answered-clause-acts g c = λ first w l e k prints stands.
    also_asked first w l e c.args.command c.in-Ok-Answered.first c.in-Ok-Answered.sent c.also_sent.result _ _ _ _ _ _ k prints (rw c.in-Ok-Answered.field-0-is at c.in-Ok-Answered.ensures.asked first _ stands) c.also_sent.ensures

pub returns-in-Ok-Silent-clause-acts : goal.returns-in-Ok-Silent-clause-acts
returns-in-Ok-Silent-clause-acts g c = λ first w l e k prints stands.
    carried_silent first w l e c.args.command _ _ _ _ _ _ k prints (rw c.in-Ok-Silent.field-0-is at c.in-Ok-Silent.ensures.asked first _ stands)

pub returns-in-Err-clause-acts : goal.returns-in-Err-clause-acts
returns-in-Err-clause-acts g c = λ first w l e k prints stands.
    carried_err first w l e c.args.command c.in-Err.halt _ _ _ _ _ _ k (c.in-Err.ensures.asked first _ stands)
