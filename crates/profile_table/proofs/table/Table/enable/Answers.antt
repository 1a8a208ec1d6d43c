use Rattle.small_card.proofs.ProfileLemmas.{alone_valid}
use Rattle.profile_table.proofs.table.Table.enable.Goals as goal

pub invariant_of-self : goal.invariant_of-self
invariant_of-self c = rw c.enable_alone.ensures (alone_valid c.args.iccid.now _ c.self.invariant)
