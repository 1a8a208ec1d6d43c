use Rattle.esipa_codec.proofs.Recording.{record_stays}
use Rattle.esipa_codec.proofs.laws.records_stay.Goals as goal

pub returns : goal.returns
returns c = record { stays = record_stays }
