use Rattle.esipa_codec.proofs.Counters.{events_rise}
use Rattle.esipa_codec.proofs.laws.counters_never_return.Goals as goal

pub returns : goal.returns
returns c = record { rise = λ id eid events. (events_rise id eid events).rise }
