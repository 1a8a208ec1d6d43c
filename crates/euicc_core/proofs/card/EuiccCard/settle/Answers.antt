use Rattle.std.proofs.Common.{arith}
use Rattle.euicc_core.specs.declared.ends.SettleEnd.TheVariants.{Spent}
use Rattle.euicc_core.proofs.Settled.{end_none, end_then, end_last, end_spent}
use Rattle.euicc_core.proofs.Returned.{recognised, returned}
use Rattle.euicc_core.proofs.card.EuiccCard.settle.Goals as goal

pub loop-done-init : goal.loop-done-init
loop-done-init g c = end_none _

pub loop-done-preserved : goal.loop-done-preserved
loop-done-preserved g c =
    let e = c.in-Spent.ensures in
    end_then c.loop-done._done _ _ _ _ c.loop-done.invariant (record { cause = e.cause; cost = e.cost; cycles = e.cycles })

pub returns-in_default : goal.returns-in_default
returns-in_default g c =
    let e = c.power_cycle.ensures in
    let all = end_last c.loop-done._done c.args.tries c.power_cycle.result _ _ _ (omega (arith, c.loop-done-test.true)) c.in_default.not-Spent c.loop-done.invariant (record { cause = e.cause; cost = e.cost; cycles = e.cycles }) in
    record {
      cause = all.cause;
      lit = e.lit;
      settled = e.settled;
      cost = all.cost;
      cycles = all.cycles;
      recognised = λ told. recognised c.args.tries c.power_cycle.result _ _ (all.cycles told);
      returned = λ told some. returned c.args.tries c.power_cycle.result _ _ (g.met.B.Chip.sound c.args.bench.now told) (all.cycles told) some;
    }

pub returns-clause-cause : goal.returns-clause-cause
returns-clause-cause g c = (end_spent c.loop-done._done c.args.tries _ _ c.loop-done.auto._done-end c.loop-done-test.false c.loop-done.invariant).cause

pub returns-clause-cost : goal.returns-clause-cost
returns-clause-cost g c = (end_spent c.loop-done._done c.args.tries _ _ c.loop-done.auto._done-end c.loop-done-test.false c.loop-done.invariant).cost

pub returns-clause-cycles : goal.returns-clause-cycles
returns-clause-cycles g c = (end_spent c.loop-done._done c.args.tries _ _ c.loop-done.auto._done-end c.loop-done-test.false c.loop-done.invariant).cycles

pub returns-clause-returned : goal.returns-clause-returned
returns-clause-returned g c = λ told some.
    let all = end_spent c.loop-done._done c.args.tries _ _ c.loop-done.auto._done-end c.loop-done-test.false c.loop-done.invariant in
    returned c.args.tries Spent (g.B.Chip.sees c.args.bench.now) (g.B.Chip.sees c.loop-done.bench) (g.met.B.Chip.sound c.args.bench.now told) (all.cycles told) some
