use Rattle.small_world.proofs.Reaching.{answered_package, lost_package}
use Rattle.small_world.proofs.Taking.{hands_says}
use Rattle.small_world.proofs.laws.packages_are_taken_where_the_checks_accept.Goals as goal

pub returns-clause-says : goal.returns-clause-says
returns-clause-says c = hands_says

pub returns-clause-takes : goal.returns-clause-takes
returns-clause-takes c = answered_package

pub returns-clause-lost : goal.returns-clause-lost
returns-clause-lost c = lost_package
