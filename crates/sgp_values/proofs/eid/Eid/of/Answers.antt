use Rattle.std.proofs.Common.{◌∙◌, Some, ap, arith}
use Rattle.sgp_values.specs.Eids.{IsEid}
use Rattle.sgp_values.proofs.eid.Eid.of.Goals as goal
use Rattle.sgp_values.proofs.Octets.{AllPass-from_bounds}
use Rattle.sgp_values.proofs.Reading.{eid_again}

pub returns-clause-exact : goal.returns-clause-exact
returns-clause-exact c =
    let range : IsEid c.args.octets.now = record { len = omega arith; each = AllPass-from_bounds _ (λ i. omega (arith, c.type_inv.octets i)) } in
    eid_again _ range ∙ ap Some (cc)
