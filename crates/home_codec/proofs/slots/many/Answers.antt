use Rattle.std.proofs.Common.{◌≡◌, ◌∷◌, [], ◌++◌, arith}
use Rattle.home_codec.proofs.Many.{goes_on, no_entry, all_read}
use Rattle.home_codec.proofs.slots.many.Goals as goal

pub returns-in-Err : goal.returns-in-Err
returns-in-Err g c =
    rw (c.in-Err.ensures.0) (no_entry g.T.Slotted.slot_at c.loop-i.rows c.args.n c.loop-i.i c.loop-i.octets _ c.loop-i-test.true c.in-Err.ensures.1 c.loop-i.invariant)

pub loop-i-preserved : goal.loop-i-preserved
loop-i-preserved g c =
    let pushed : c.push.new.self.items ≡ c.loop-i.rows ++ c.in-Ok.entry ∷ [] = grind arith in
    rw pushed (goes_on g.T.Slotted.slot_at c.loop-i.rows c.args.n c.loop-i.i c.loop-i.octets c.read.new.octets c.in-Ok.entry _ c.loop-i-test.true c.in-Ok.ensures c.loop-i.invariant)

pub returns : goal.returns
returns g c = all_read g.T.Slotted.slot_at c.loop-i.rows c.args.n c.loop-i.i c.loop-i.octets _ c.loop-i-test.false c.loop-i.invariant
