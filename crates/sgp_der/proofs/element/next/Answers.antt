use Rattle.std.proofs.Common.{arith}
use Rattle.std.proofs.lemmas.Result.{MatchResult-weaker}
use Rattle.sgp_der.proofs.Elements.{element_begins, begins_again}
use Rattle.sgp_der.proofs.element.next.Goals as goal

pub returns-clause-found : goal.returns-clause-found
returns-clause-found c = MatchResult-weaker c.split.result c.split.ensures (λ t e. element_begins c.args.bytes.now _ (λ i. omega (arith, c.type_inv.bytes i)) e) (λ f e. tt)

pub returns-clause-only : goal.returns-clause-only
returns-clause-only c = MatchResult-weaker c.split.result c.split.ensures (λ t e. tt) (λ f e. λ tag content rest is.
    let again = begins_again c.args.bytes.now tag content rest is in
    absurd cc)
