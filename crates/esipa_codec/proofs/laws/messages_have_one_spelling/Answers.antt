use Rattle.sgp_fields.proofs.Elements.{one_spelling}
use Rattle.esipa_codec.proofs.ToEimCodec.{to_eim_listed}
use Rattle.esipa_codec.proofs.ToIpaCodec.{to_ipa_listed}
use Rattle.esipa_codec.proofs.laws.messages_have_one_spelling.Goals as goal

pub returns-clause-up : goal.returns-clause-up
returns-clause-up c = one_spelling to_eim_listed

pub returns-clause-down : goal.returns-clause-down
returns-clause-down c = one_spelling to_ipa_listed
