use Rattle.std.proofs.Common.{◌∙◌, sym, subst}
use Rattle.std.specs.Prelude.{ℕ}
use Rattle.iot_world.specs.Asking.{IsTold}
use Rattle.iot_world.proofs.Telling.{told, if_fine}
use Rattle.iot_world.proofs.world.World.tell.Goals as goal

pub returns-in-Ok-clause-told : goal.returns-in-Ok-clause-told
returns-in-Ok-clause-told g c = λ w removed network.
    let now = g.in-Ok.ensures.stands w network in
    let says = if_fine g.put_said.result (g.put_said.ensures.ok c removed) (sym g.is_err.ensures.value ∙ g.if-is_err.false) in
    subst (λ (n : ℕ). IsTold w c g.args.answer g.sent-first.result n g.answered.new.self g.args.out.now g.put_said.new.out) (sym g.saturating_sub-sent.ensures)
    (told w c g.args.answer g.sent-first.result g.sent.result g.answered.new.self g.args.out.now g.put_said.new.out says (g.sent-first.ensures w network) now (g.sent.ensures _ now))
