use Rattle.std.proofs.Common.{◌≡◌, ◌∙◌, ◌+◌, false, ap, sym, arith}
use Rattle.std.specs.Result.{is_err}
use Rattle.iot_schedule.specs.Making.{state_before}
use Rattle.iot_schedule.proofs.Makes.{from_ok}
use Rattle.schedule_forms.proofs.Piecing.{with_line, made_one}
use Rattle.schedule_forms.proofs.generating.generate_line.Goals as goal

pub returns-clause-made : goal.returns-clause-made
returns-clause-made g c = λ sent0 start count is state p.
    let good : is_err c.put_line.result ≡ false = sym c.is_err.ensures.value ∙ c.if-is_err.false in
    let made = from_ok c.put_line.result _ good (c.put_line.ensures start state) in
    let next : c.args.number + 1 ≡ count + 2 = omega (arith, is) in
    let q = with_line start count c.args.number sent0 _ c.args.out.now c.put_line.new.out is p made.0 in
    made_one start count sent0 _ _ _ c.send_piece.result (made.1 ∙ ap (state_before start) next) (c.send_piece.ensures.passed sent0 start (count + 1) q)
