use Rattle.std.proofs.Common.{arith}
use Rattle.home_codec.proofs.Clauses.{card_found, card_only, card_malformed}
use Rattle.home_codec.proofs.reading.read_card.Goals as goal

pub returns-clause-found : goal.returns-clause-found
returns-clause-found c = card_found c.args.home.now c.card_in.result (λ i. omega (arith, c.type_inv.home i)) c.card_in.ensures

pub returns-clause-only : goal.returns-clause-only
returns-clause-only c = card_only c.args.home.now c.card_in.result c.card_in.ensures

pub returns-clause-malformed : goal.returns-clause-malformed
returns-clause-malformed c = card_malformed c.args.home.now c.card_in.result c.card_in.ensures
