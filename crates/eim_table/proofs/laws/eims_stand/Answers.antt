use Rattle.eim_table.proofs.Keeping.{valid_eims, valid_ranges, eims_valid}
use Rattle.eim_table.proofs.laws.eims_stand.Goals as goal

pub returns : goal.returns
returns c = record { stand = valid_eims; ranges = valid_ranges; valid = eims_valid }
