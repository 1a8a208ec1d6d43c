use Rattle.std.proofs.Common.{refl}
use Rattle.esipa_codec.specs.Assistant.{act_of}
use Rattle.ipa_core.proofs.Standing.{pushed}
use Rattle.ipa_core.proofs.assistant.Ipa.on_push.Goals as goal

pub returns-clause-act : goal.returns-clause-act
unfolding act_of
returns-clause-act c = λ es. refl

pub returns-clause-stays : goal.returns-clause-stays
returns-clause-stays c = pushed c.args.self.now
