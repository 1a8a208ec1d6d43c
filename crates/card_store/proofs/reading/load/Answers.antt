use Rattle.std.proofs.Common.{◌∙◌}
use Rattle.card_store.proofs.Loads.{loads_read, loads_ended}
use Rattle.card_store.proofs.reading.load.Goals as goal

pub returns-in-Ok-clause-told : goal.returns-in-Ok-clause-told
returns-in-Ok-clause-told g c = λ told. loads_read c.read_idle.result _ _ _ told (c.in-Ok.ensures.told told) (c.read_idle.ensures.told (c.in-Ok.ensures.cause.told ∙ told))

pub returns-in-Err-clause-told : goal.returns-in-Err-clause-told
returns-in-Err-clause-told g c = λ told. rw c.of_recovery.ensures (loads_ended c.in-Err.end _ _ told (c.in-Err.ensures.told told))
