use Rattle.lone_card.proofs.Spelled.{check_spelled, check_none}
use Rattle.lone_card.proofs.laws.packages_are_checked.Goals as goal

pub returns : goal.returns
returns c = record { checked = check_spelled; malformed = check_none }
