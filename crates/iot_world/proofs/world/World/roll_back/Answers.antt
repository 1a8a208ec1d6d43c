use Rattle.small_card.specs.Ranges.{IsCommand}
use Rattle.iot_world.proofs.Powering.{rollback_direct}
use Rattle.iot_world.proofs.Turning.{direct}
use Rattle.iot_world.proofs.world.World.roll_back.Goals as goal

pub command-requires-clause-range : goal.command-requires-clause-range
unfolding IsCommand
command-requires-clause-range g c = tt

pub returns-clause-acts : goal.returns-clause-acts
returns-clause-acts g c = λ first w stands.
    direct first _ _ w c.command.result _ _ _ _ _ (rollback_direct w) (c.command.ensures.commands first w stands)
