use Rattle.std.proofs.Common.{◌≡◌, take}
use Rattle.std.specs.List.{list_all}
use Rattle.sgp_values.specs.Ranges.{is_name_octet}
use Rattle.sgp_values.proofs.alphabet.are_names.Given as goal

abbrev pub invariant-loop-octet : goal.invariant-loop-octet
invariant-loop-octet l = l.all ≡ list_all is_name_octet (take l.octet-index l.octets)
