use Rattle.small_card.proofs.ProfileLemmas.{none_valid}
use Rattle.profile_table.proofs.table.Table.disable.Goals as goal

pub invariant_of-self : goal.invariant_of-self
invariant_of-self c = rw c.disable_all.ensures (none_valid _ c.self.invariant)
