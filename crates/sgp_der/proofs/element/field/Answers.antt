use Rattle.sgp_der.proofs.Elements.{begins_same}
use Rattle.sgp_der.proofs.element.field.Goals as goal
use Rattle.sgp_der.proofs.element.field.Goals.{in_default-via-in-Ok+else-found-tag, in_default-via-in_default}

pub returns-in_default-clause-found : goal.returns-in_default-clause-found
returns-in_default-clause-found c content rest is =
    elim c.in_default.branch [
      | in_default-via-in-Ok+else-found-tag w ↦ absurd (w.if-found-tag.false (begins_same c.args.bytes.now _ _ _ _ _ _ w.in-Ok.ensures.found is).tag)
      | in_default-via-in_default w ↦ w.in_default.ensures.only c.args.tag content rest is
    ]
