use Rattle.small_world.proofs.Redelivering.{was_taken, refused_again, replayed}
use Rattle.small_world.proofs.Staying.{taken_stands, units_stay}
use Rattle.small_world.proofs.laws.redelivered_packages_are_refused.Goals as goal

pub returns-clause-taken : goal.returns-clause-taken
returns-clause-taken c = taken_stands

pub returns-clause-stays : goal.returns-clause-stays
returns-clause-stays c = units_stay

pub returns-clause-refused : goal.returns-clause-refused
returns-clause-refused c = λ h good bytes p l i s. refused_again h good bytes p (was_taken h p l i) s

pub returns-clause-replay : goal.returns-clause-replay
returns-clause-replay c = λ h bytes p l i s few a. replayed h bytes p (was_taken h p l i) s few a
