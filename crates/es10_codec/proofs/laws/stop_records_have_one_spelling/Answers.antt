use Rattle.es10_codec.proofs.Stops.{stops_split, stop_apart}
use Rattle.es10_codec.proofs.laws.stop_records_have_one_spelling.Goals as goal

pub returns : goal.returns
returns c = record { split = stops_split; apart = stop_apart }
