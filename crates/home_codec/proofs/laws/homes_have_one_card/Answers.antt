use Rattle.home_codec.proofs.Whole.{one_card}
use Rattle.home_codec.proofs.laws.homes_have_one_card.Goals as goal

pub returns : goal.returns
returns c = one_card
