use Rattle.card_store.proofs.Cards.{stands_for_one}
use Rattle.card_store.proofs.laws.an_image_stands_for_one_card.Goals as goal

pub returns : goal.returns
returns c = stands_for_one
