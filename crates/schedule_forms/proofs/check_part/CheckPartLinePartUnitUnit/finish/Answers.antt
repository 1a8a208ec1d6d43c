use Rattle.std.proofs.Common.{refl}
use Rattle.schedule_forms.specs.Checks.{ok_line}
use Rattle.schedule_forms.proofs.Counting.{counts_none, counts_some}
use Rattle.schedule_forms.proofs.check_part.CheckPartLinePartUnitUnit.finish.Goals as goal

pub returns-then-self-eq0 : goal.returns-then-self-eq0
returns-then-self-eq0 c = λ bench modems first ls text was. counts_none first.part.count c.args.self.now.count c.if-self-eq0.true ls text was

pub returns-in-Ok : goal.returns-in-Ok
returns-in-Ok c = λ bench modems. record {
  closing = ok_line c.args.self.now.count;
  appended = c.in-Ok.ensures;
  closes = λ first ls text was. counts_some first.part.count c.args.self.now.count c.if-self-eq0.false (ok_line c.args.self.now.count) refl ls text was;
}
