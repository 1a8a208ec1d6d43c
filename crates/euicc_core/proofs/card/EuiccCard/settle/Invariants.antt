use Rattle.euicc_core.specs.declared.ends.SettleEnd.TheVariants.{Spent}
use Rattle.euicc_core.proofs.Settled.{IsEnd}
use Rattle.euicc_core.proofs.card.EuiccCard.settle.Given as goal

abbrev pub invariant-loop-done : goal.invariant-loop-done
invariant-loop-done g l = IsEnd l._done Spent (g.B.Chip.sees l.initial.bench) (g.B.Chip.sees l.bench)
