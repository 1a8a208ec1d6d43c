use Rattle.small_world.proofs.Numbering.{numbered}
use Rattle.small_world.proofs.laws.numbers_name_forms.Goals as goal

pub returns : goal.returns
returns c = λ h l e. (numbered h l e).apart
