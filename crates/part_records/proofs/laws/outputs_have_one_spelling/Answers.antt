use Rattle.part_records.proofs.OutputLaws.{output_one_spelling, deeds_one_spelling}
use Rattle.part_records.proofs.laws.outputs_have_one_spelling.Goals as goal

pub returns-clause-eim : goal.returns-clause-eim
returns-clause-eim c = output_one_spelling

pub returns-clause-ipa : goal.returns-clause-ipa
returns-clause-ipa c = deeds_one_spelling
