use Rattle.small_card.proofs.Accepting.{legal_once}
use Rattle.lone_card.proofs.Once.{frames_legal}
use Rattle.lone_card.proofs.laws.packages_take_effect_once.Goals as goal

pub returns : goal.returns
returns c = record { legal = frames_legal; once = λ fs h octets reached. legal_once h (frames_legal fs h octets reached) }
