use Rattle.package_codec.proofs.Malformed.{malformed_exactly}
use Rattle.package_codec.proofs.replies.malformed_loads_spell_nothing.Goals as goal

pub returns : goal.returns
returns c = record { exact = malformed_exactly }
