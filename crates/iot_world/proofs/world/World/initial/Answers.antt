use Rattle.iot_world.proofs.Powering.{initial_direct}
use Rattle.iot_world.proofs.Turning.{direct}
use Rattle.iot_world.proofs.world.World.initial.Goals as goal

pub returns-clause-acts : goal.returns-clause-acts
returns-clause-acts g c = λ first w stands.
    direct first _ _ w c.command.result _ _ _ _ _ (initial_direct w c.args.id c.args.address c.args.key) (c.command.ensures.commands first w stands)
