use Rattle.std.proofs.Common.{Err, sym, ◌∙◌, ap}
use Rattle.iot_world.proofs.Handing.{taken, untaken, untold}
use Rattle.iot_world.proofs.world.World.hand.Goals as goal

pub returns-then-not-is_loaded-clause-hands : goal.returns-then-not-is_loaded-clause-hands
returns-then-not-is_loaded-clause-hands c = λ load w removed network.
    untaken w load c.args.answer _ _ _ (sym c.is_loaded.ensures ∙ c.if-not-is_loaded.true) (rw c.in_ok-say.was at c.say.ensures load removed) network

pub returns-in-Ok-clause-hands : goal.returns-in-Ok-clause-hands
returns-in-Ok-clause-hands c = λ load w removed network.
    taken w load c.args.answer _ _ _ (sym c.is_loaded.ensures ∙ c.if-not-is_loaded.false) (rw c.in_ok-say.was at c.say.ensures load removed) (c.in-Ok.ensures.stands w network)

pub returns-in-Err-clause-hands : goal.returns-in-Err-clause-hands
returns-in-Err-clause-hands c = λ load w removed network.
    untold w load c.args.answer c.in-Err.end c.of_send.result _ _ _ _ c.of_send.ensures (sym c.is_loaded.ensures ∙ c.if-not-is_loaded.false) network
    (λ is. c.in-Err.ensures.limit w network (ap (λ e. Err e) is))
