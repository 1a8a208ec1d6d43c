use Rattle.sgp_fields.proofs.Clauses.{reads_spelled, reads_again}
use Rattle.part_records.proofs.EimInputs.{eim_codec}
use Rattle.part_records.proofs.IpaInputs.{ipa_codec}
use Rattle.part_records.proofs.laws.inputs_are_read_back.Goals as goal

pub returns-clause-eim_taken : goal.returns-clause-eim_taken
returns-clause-eim_taken c = reads_spelled eim_codec

pub returns-clause-eim_again : goal.returns-clause-eim_again
returns-clause-eim_again c = reads_again eim_codec

pub returns-clause-ipa_taken : goal.returns-clause-ipa_taken
returns-clause-ipa_taken c = reads_spelled ipa_codec

pub returns-clause-ipa_again : goal.returns-clause-ipa_again
returns-clause-ipa_again c = reads_again ipa_codec
