use Rattle.std.proofs.Common.{◌≡◌, ℕ, List, ◌++◌, false, ap, sym, ◌∙◌}
use Rattle.std.specs.Result.{is_err}
use Rattle.iot_schedule.proofs.Makes.{line_is, state_is, from_ok}
use Rattle.iot_schedule.proofs.maker.Maker.next_line.Goals as goal

pub returns-clause-of_start : goal.returns-clause-of_start
returns-clause-of_start c = λ start e.
    let good : is_err c.put_line.result ≡ false = sym c.is_err.ensures.value ∙ c.if-is_err.false in
    let before : List ℕ = c.args.out.now in (
      from_ok c.put_line.result _ good c.put_line.ensures.ok ∙ ap (λ (t : List ℕ). before ++ t) (line_is start c.args.number c.args.self.now.state e),
      from_ok c.put_line.result _ good c.put_line.ensures.state ∙ state_is start c.args.number c.args.self.now.state e,
    )
