use Rattle.std.proofs.Common.{◌∙◌, Some, ap, sym, arith}
use Rattle.sgp_values.specs.Ranges.{IsKey}
use Rattle.sgp_values.proofs.key.Key.of.Goals as goal
use Rattle.sgp_values.proofs.Octets.{AllPass-from_bounds}
use Rattle.sgp_values.proofs.Reading.{key_again}

pub returns-clause-exact : goal.returns-clause-exact
returns-clause-exact c =
    let range : IsKey c.args.octets.now = record { few = omega arith; each = AllPass-from_bounds _ (λ i. omega (arith, c.type_inv.octets i)) } in
    key_again _ range ∙ ap Some (sym c.of.ensures)
