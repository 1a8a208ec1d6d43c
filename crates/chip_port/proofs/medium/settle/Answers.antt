use Rattle.std.proofs.Common.{◌≡◌, inl, inr, ℕ, arith, take, reverse, subst}
use Rattle.chip_port.specs.Medium.{Agree}
use Rattle.chip_port.proofs.Settling.{stepped, agree_copied, agree_none, agree_sync, agree_power_cycle}
use Rattle.chip_port.proofs.medium.settle.Goals as goal

pub loop-left-preserved-in-Write : goal.loop-left-preserved-in-Write
loop-left-preserved-in-Write c =
    rw c.copy_range.ensures (omega (arith, c.loop-left.invariant.0), agree_copied 346624 _ _ _ _ _ _ (stepped 346624 _ _ _ _ _ _ (omega arith) c.loop-left.invariant.0 c.in-Write.is c.loop-left.invariant.1))

pub returns-in-Sync : goal.returns-in-Sync
returns-in-Sync c = elim c.in-Sync.is [
  | inl is ↦ agree_sync 346624 _ _ _ (stepped 346624 _ _ _ _ _ _ (omega arith) c.loop-left.invariant.0 is c.loop-left.invariant.1)
  | inr is ↦ agree_power_cycle 346624 _ _ _ _ (stepped 346624 _ _ _ _ _ _ (omega arith) c.loop-left.invariant.0 is.1 c.loop-left.invariant.1)
]

pub returns : goal.returns
returns c =
    let e : c.loop-left.left ≡ 0 = omega (arith, c.loop-left-test.false) in
    agree_none 346624 _ _ (subst (λ (k : ℕ). Agree 346624 (reverse (take k c.args.records.now)) c.loop-left.image c.args.content.now) e c.loop-left.invariant.1)
