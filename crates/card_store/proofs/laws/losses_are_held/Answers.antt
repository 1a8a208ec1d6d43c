use Rattle.card_store.proofs.Holding.{loss_held}
use Rattle.card_store.proofs.laws.losses_are_held.Goals as goal

pub returns : goal.returns
returns g c = λ first n ok h m older u held run. loss_held _ _ first n ok h m older u held run
