-- Before its first frame a part stands for what it stood for.
use Rattle.std.proofs.Common.{[], refl}
use Rattle.eim_queue.specs.Queues.{Queue}
use Rattle.lone_parts.specs.Folds.{fold}
use Rattle.lone_parts.specs.Eims as eims
use Rattle.lone_parts.specs.Ipas as ipas

-- no frame leads nowhere
pub eim_led_nowhere : (first : Queue) → eims.LedTo first first [] []
unfolding fold
eim_led_nowhere first = λ e stands. record { answered = record { state = e; folds = refl }; stands = stands }

pub ipa_led_nowhere : (first : ipas.Alone) → ipas.LedTo first first [] []
unfolding fold
ipa_led_nowhere first = (refl, λ events stands. record { answered = record { state = events; folds = refl }; stands = stands })
