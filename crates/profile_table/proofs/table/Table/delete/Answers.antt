use Rattle.small_card.proofs.ProfileLemmas.{without_valid}
use Rattle.profile_table.proofs.table.Table.delete.Goals as goal

pub invariant_of-self : goal.invariant_of-self
invariant_of-self c = rw c.remove.ensures (without_valid c.args.iccid.now _ c.self.invariant)
