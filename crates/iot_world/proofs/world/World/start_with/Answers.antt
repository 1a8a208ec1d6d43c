use Rattle.std.proofs.Common.{map, refl}
use Rattle.iot_world.proofs.Attending.{begun}
use Rattle.iot_world.proofs.world.World.start_with.Goals as goal

pub returns-in-Ok-start-clause-begins : goal.returns-in-Ok-start-clause-begins
returns-in-Ok-start-clause-begins g c = λ view tells told.
    let handed_in = map view c.args.modems.now.items in
    let v = c.of-in-Ok-start in
    begun c.args.device c.in-Ok.profiles handed_in _ v.result c.new.result c.in-Ok-start.card _ _ v.ensures.network v.ensures.card c.in-Ok.ensures.same (c.in-Ok-start.ensures.starts told) (c.new.ensures c.args.device handed_in refl) (c.attend.ensures.told view tells)
