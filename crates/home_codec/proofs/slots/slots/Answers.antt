use Rattle.std.proofs.Common.{◌≤◌, arith}
use Rattle.home_codec.proofs.Many.{many_count}
use Rattle.home_codec.proofs.slots.slots.Goals as goal

pub returns-clause-few : goal.returns-clause-few
returns-clause-few g c =
    let few : c.args.n ≤ c.args.all = c.if-n-all.false in
    omega (arith, many_count g.T.Slotted.slot_at c.args.n c.args.octets.now _ c.in_ok-rows.ensures)
