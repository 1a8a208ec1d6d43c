use Rattle.home_codec.specs.FullCards.{full_card}
use Rattle.card_store.proofs.Readying.{listed_plan}
use Rattle.card_store.proofs.staging.ready.Goals as goal

pub invariant_of-result : goal.invariant_of-result
invariant_of-result g c = listed_plan c.args.changes (full_card c.args.card) c.requires.listed c.requires.valid
