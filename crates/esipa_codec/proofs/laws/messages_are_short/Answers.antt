use Rattle.esipa_codec.proofs.ToEimCodec.{to_eim_few}
use Rattle.esipa_codec.proofs.ToIpaCodec.{to_ipa_few, package_few}
use Rattle.esipa_codec.proofs.laws.messages_are_short.Goals as goal

pub returns-clause-up : goal.returns-clause-up
returns-clause-up c = to_eim_few

pub returns-clause-down : goal.returns-clause-down
returns-clause-down c = to_ipa_few

pub returns-clause-signed : goal.returns-clause-signed
returns-clause-signed c = package_few
