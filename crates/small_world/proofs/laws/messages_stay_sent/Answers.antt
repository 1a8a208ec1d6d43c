use Rattle.small_world.proofs.Growing.{turn_more, turn_octets}
use Rattle.small_world.proofs.laws.messages_stay_sent.Goals as goal

pub returns-clause-more : goal.returns-clause-more
returns-clause-more c = turn_more

pub returns-clause-octets : goal.returns-clause-octets
returns-clause-octets c = turn_octets
