use Rattle.iot_world.proofs.Attending.{left_kept, left_told, over_seen, turned_halt, turned_told}
use Rattle.iot_world.proofs.world.World.step_with.Goals as goal

pub returns-in-Ok-clause-turns : goal.returns-in-Ok-clause-turns
returns-in-Ok-clause-turns g c = λ first w view tells puts stands.
    turned_told first c.args.line w _ _ _ _ _ _ (c.in-Ok.ensures.acts first w view puts stands)
    (left_told view c.args.line _ c.args.modems.now.items _ _ w.modems c.in-Ok.ensures.left stands.same_modems (c.attend.ensures.told view tells))

pub returns-in-Ok-clause-kept : goal.returns-in-Ok-clause-kept
returns-in-Ok-clause-kept g c = λ shown keeps. left_kept shown c.args.line _ c.args.modems.now.items _ _ c.in-Ok.ensures.left (c.attend.ensures.kept shown keeps)

pub returns-in-Err-clause-turns : goal.returns-in-Err-clause-turns
returns-in-Err-clause-turns g c = λ first w view tells puts stands.
    turned_halt first c.args.line w c.in-Err.halt _ _ _ _ _ _ (c.in-Err.ensures.acts first w view puts stands)
    (over_seen view c.args.line c.args.self.now.network w c.args.modems.now.items _ stands.world.network c.in-Err.ensures.left stands.same_modems)
