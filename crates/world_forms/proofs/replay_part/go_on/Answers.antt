use Rattle.std.proofs.Common.{inr}
use Rattle.world_forms.proofs.Walking.{turned, turned_short, halted}
use Rattle.world_forms.proofs.replay_part.go_on.Goals as goal

pub returns-in-Ok-put_ended-clause-goes_on : goal.returns-in-Ok-put_ended-clause-goes_on
returns-in-Ok-put_ended-clause-goes_on g c = λ first w view tells puts stands.
    turned first c.in_ok-line.line c.args.text.now w c.step_with.new.self _ _ _ c.args.out.now c.step_with.new.out c.put_ended.new.out c.in_ok-line.ensures.spells
    (rw c.new-said.ensures at (c.in-Ok.ensures.turns first w view tells puts stands)) (rw c.as_slice.ensures at c.in-Ok-put_ended.ensures)

pub returns-in-Ok-clause-goes_on : goal.returns-in-Ok-clause-goes_on
returns-in-Ok-clause-goes_on g c = λ first w view tells puts stands.
    inr (turned_short first c.in_ok-line.line c.args.text.now w c.step_with.new.self _ _ _ c.new-said.result c.step_with.new.out c.in_ok-line.ensures.spells (c.in-Ok.ensures.turns first w view tells puts stands))

pub returns-clause-goes_on : goal.returns-clause-goes_on
returns-clause-goes_on g c = λ first w view tells puts stands.
    rw c.of_halt.ensures (halted first c.in_ok-line.line c.args.text.now w c.step_with.new.self _ _ _ c.new-said.result c.step_with.new.out c.args.out.now c.args.out.now c.in-Err.halt c.in_ok-line.ensures.spells
    (c.in-Err.ensures.turns first w view tells puts stands))
