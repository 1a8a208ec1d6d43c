use Rattle.std.proofs.Common.{◌≡◌, ◌-◌}
use Rattle.home_codec.specs.Fixed.{many_at, joined}
use Rattle.home_codec.proofs.slots.many.Given as goal

abbrev pub invariant-loop-i : goal.invariant-loop-i
invariant-loop-i g l = let entry = g.T.Slotted.slot_at in
    joined l.rows (many_at entry (l.n - l.i) l.octets) ≡ many_at entry l.n l.fn.octets
