use Rattle.home_codec.proofs.Sorting.{insert_last}
use Rattle.home_codec.proofs.Seating.{seated, freed, parted}
use Rattle.home_codec.proofs.laws.places_change.Goals as goal

pub returns : goal.returns
returns c = record { seated = seated; last = λ rs r before. insert_last r rs before; freed = freed; parted = parted }
