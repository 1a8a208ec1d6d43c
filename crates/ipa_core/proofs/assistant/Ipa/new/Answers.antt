use Rattle.ipa_core.proofs.Standing.{new_stands}
use Rattle.ipa_core.proofs.assistant.Ipa.new.Goals as goal

pub returns : goal.returns
returns c = new_stands
