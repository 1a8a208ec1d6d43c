use Rattle.std.proofs.Common.{◌≡◌, ℕ, List, [], ◌∷◌, length, ◌==◌, false}
use Rattle.sgp_der.proofs.Elements.{begins_same, whole_begins}
use Rattle.sgp_der.proofs.element.only.Goals as goal

not_empty : (xs : List ℕ) → false ≡ (length xs == 0) → xs ≡ [] → ⊥
not_empty [] e none = absurd cc
not_empty (x ∷ xs) e none = absurd cc

pub returns-in_err-found-clause-found : goal.returns-in_err-found-clause-found
returns-in_err-found-clause-found c = rw c.from_residual.ensures (λ content is. c.in_err-found.ensures.found content [] (whole_begins c.args.bytes.now c.args.tag content is))

pub returns-else-is_empty-clause-found : goal.returns-else-is_empty-clause-found
returns-else-is_empty-clause-found c content is =
    not_empty c.in_ok-found.found.rest.now c.if-is_empty.ensures (begins_same c.args.bytes.now _ _ _ _ _ _ c.in_ok-found.ensures.found (whole_begins c.args.bytes.now c.args.tag content is)).rest
