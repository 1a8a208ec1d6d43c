use Rattle.esipa_codec.proofs.Recording.{late_record}
use Rattle.esipa_codec.proofs.laws.late_copies_change_no_record.Goals as goal

pub returns : goal.returns
returns c = record { late = late_record }
