use Rattle.small_world.proofs.Attending.{modems_are}
use Rattle.small_world.proofs.Reached.{reached_shows}
use Rattle.small_world.proofs.laws.modems_are_told_in_turn.Goals as goal

pub returns-clause-shown : goal.returns-clause-shown
returns-clause-shown c = reached_shows

pub returns-clause-told : goal.returns-clause-told
returns-clause-told c = modems_are
