use Rattle.std.proofs.Common.{◌∙◌}
use Rattle.home_codec.proofs.Numbering.{number_holds}
use Rattle.home_codec.proofs.numbers.slot_number.Goals as goal

pub returns : goal.returns
returns c = λ place behind fits begins. c.number.ensures ∙ number_holds c.args.front.now c.requires place behind fits begins
