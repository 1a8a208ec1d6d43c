use Rattle.lone_card.proofs.Spelled.{reply_spelled, after_spelled, reply_none, after_none}
use Rattle.lone_card.proofs.laws.commands_are_replied_to.Goals as goal

pub returns : goal.returns
returns c = record { replied = reply_spelled; carried_out = after_spelled; malformed = reply_none; ignored = after_none }
