use Rattle.lone_parts.proofs.IpaSteps.{rested}
use Rattle.lone_parts.proofs.ipa_part.restarted.Goals as goal

pub returns : goal.returns
returns c = λ events h. rested events c.restart.new.self (c.restart.ensures events h)
