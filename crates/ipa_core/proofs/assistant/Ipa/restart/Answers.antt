use Rattle.ipa_core.proofs.Standing.{restarted}
use Rattle.ipa_core.proofs.assistant.Ipa.restart.Goals as goal

pub returns : goal.returns
returns c = λ es h. restarted c.new.result es c.new.ensures
