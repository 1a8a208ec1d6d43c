use Rattle.std.proofs.Common.{◌≡◌, ◌∙◌, refl, ap, arith}
use Rattle.std.proofs.lemmas.Result.{err_from_is_err_and}
use Rattle.run_loop.proofs.Going.{rose-since}
use Rattle.iot_schedule.specs.Making.{state_before}
use Rattle.schedule_forms.proofs.Piecing.{none_made, first_state, generated_front, generated_by}
use Rattle.schedule_forms.proofs.generating.generate.Goals as goal

pub loop-made-init : goal.loop-made-init
loop-made-init g c = record {
  pieces = rw c.new-out.ensures (none_made c.args.start (g.K.Sink.sent c.args.sink.now));
  state = first_state c.args.start _ c.new-maker.ensures.start;
  monotone = omega arith;
}

pub loop-made-preserved : goal.loop-made-preserved
loop-made-preserved g c =
    let was = c.loop-made.invariant in
    let line = c.in_ok-generate_line.ensures in
    let made = line.made _ c.args.start c.loop-made.made refl was.state was.pieces in
    record { pieces = made.0; state = made.1 ∙ ap (state_before c.args.start) (omega arith); monotone = omega (arith, was.monotone, line.monotone) }

pub returns-in_err-generate_line-clause-generated : goal.returns-in_err-generate_line-clause-generated
returns-in_err-generate_line-clause-generated g c =
    let was = c.loop-made.invariant in
    let e = err_from_is_err_and c.from_residual.result c.from_residual.ensures.1 in
    let made = c.in_err-generate_line.ensures.made _ c.args.start c.loop-made.made refl was.state was.pieces in
    rw (e.1, e.2) (generated_front c.args.start c.loop-made.made c.args.lines _ _ c.generate_line.new.out c.generate_line.new.maker.state c.in_err-generate_line.field-0.0 (omega arith) made)

pub returns-in_err-generate_line-clause-fault : goal.returns-in_err-generate_line-clause-fault
returns-in_err-generate_line-clause-fault g c = λ at.
    let e = err_from_is_err_and c.from_residual.result c.from_residual.ensures.1 in
    rose-since _ _ _ c.loop-made.invariant.monotone (c.in_err-generate_line.ensures.fault (cc))

pub returns-in_err-generate_line-clause-monotone : goal.returns-in_err-generate_line-clause-monotone
returns-in_err-generate_line-clause-monotone g c = omega (arith, c.loop-made.invariant.monotone, c.in_err-generate_line.ensures.monotone)

pub returns-clause-generated : goal.returns-clause-generated
returns-clause-generated g c =
    let all : c.loop-made.made ≡ c.args.lines = omega (arith, c.loop-made-test.false, c.loop-made.auto.made-end) in
    generated_by c.args.start c.args.lines _ _ _ c.send_all.result (c.send_all.ensures.flushed _ c.args.start c.args.lines (rw all at c.loop-made.invariant.pieces))

pub returns-clause-fault : goal.returns-clause-fault
returns-clause-fault g c = λ at. rose-since _ _ _ c.loop-made.invariant.monotone (c.send_all.ensures.fault at)

pub returns-clause-monotone : goal.returns-clause-monotone
returns-clause-monotone g c = omega (arith, c.loop-made.invariant.monotone, c.send_all.ensures.monotone)
