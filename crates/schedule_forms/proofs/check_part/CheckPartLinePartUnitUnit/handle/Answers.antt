use Rattle.std.proofs.Common.{Ok, [], refl, append-nil, sym}
use Rattle.std.proofs.lemmas.Result.{err_from_is_err_and}
use Rattle.schedule_forms.proofs.Counting.{counts_on, counts_no_more}
use Rattle.schedule_forms.proofs.check_part.CheckPartLinePartUnitUnit.handle.Goals as goal

pub returns-in_err-check_line-clause-handles : goal.returns-in_err-check_line-clause-handles
returns-in_err-check_line-clause-handles c =
    let e = err_from_is_err_and c.from_residual.result c.from_residual.ensures.1 in
    let check = c.in_err-check_line.ensures in
    rw (e.1, e.2) (λ first ls before was. counts_no_more first.part.count c.args.self.now.count c.args.line.now c.in_err-check_line.field-0.0 check.first check.later ls before was)

pub returns-clause-handles : goal.returns-clause-handles
returns-clause-handles c =
    let check = c.in_ok-check_line.ensures in
    record {
      text = [];
      appended = sym (append-nil c.args._out.now);
      stands = λ first ls before was.
          counts_on first.part.count c.args.self.now.count c.args.line.now (Ok c.in_ok-check_line.field-0) c.in_ok-check_line.field-0 refl check.first check.later c.saturating_add-self.result c.saturating_add-self.ensures ls before was;
    }
