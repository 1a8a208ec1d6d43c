use Rattle.std.proofs.Common.{arith, ap, ◌∙◌}
use Rattle.std.specs.List.{list_all}
use Rattle.std.proofs.lemmas.List.{take_all}
use Rattle.sgp_values.specs.Ranges.{is_name_octet}
use Rattle.sgp_values.proofs.Reading.{decided_all}
use Rattle.sgp_values.proofs.alphabet.are_names.Goals as goal

pub returns-clause-each : goal.returns-clause-each
returns-clause-each c =
    let whole = take_all c.loop-octet.octet-index c.args.octets.now (omega arith) in
    decided_all is_name_octet c.args.octets.now c.loop-octet.all (c.loop-octet.invariant ∙ ap (list_all is_name_octet) whole)
