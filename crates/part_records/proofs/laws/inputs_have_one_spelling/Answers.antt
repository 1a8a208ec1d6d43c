use Rattle.sgp_fields.proofs.Elements.{one_spelling}
use Rattle.part_records.proofs.EimInputs.{eim_listed}
use Rattle.part_records.proofs.IpaInputs.{ipa_one_spelling}
use Rattle.part_records.proofs.laws.inputs_have_one_spelling.Goals as goal

pub returns-clause-eim : goal.returns-clause-eim
returns-clause-eim c = one_spelling eim_listed

pub returns-clause-ipa : goal.returns-clause-ipa
returns-clause-ipa c = ipa_one_spelling
