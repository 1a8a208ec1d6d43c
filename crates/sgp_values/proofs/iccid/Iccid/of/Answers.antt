use Rattle.std.proofs.Common.{◌∙◌, Some, ap, arith}
use Rattle.sgp_values.specs.Iccids.{IsIccid}
use Rattle.sgp_values.proofs.iccid.Iccid.of.Goals as goal
use Rattle.sgp_values.proofs.Octets.{AllPass-from_bounds}
use Rattle.sgp_values.proofs.Reading.{iccid_again}

pub returns-clause-exact : goal.returns-clause-exact
returns-clause-exact c =
    let range : IsIccid c.args.octets.now = record { len = omega arith; each = AllPass-from_bounds _ (λ i. omega (arith, c.type_inv.octets i)) } in
    iccid_again _ range ∙ ap Some (cc)
