use Rattle.part_records.proofs.Outputs.{eim_output_few, deeds_few}
use Rattle.part_records.proofs.laws.outputs_are_short.Goals as goal

pub returns-clause-eim : goal.returns-clause-eim
returns-clause-eim c = eim_output_few

pub returns-clause-ipa : goal.returns-clause-ipa
returns-clause-ipa c = deeds_few
