use Rattle.std.proofs.Common.{◌∙◌, refl, true, false}
use Rattle.small_card.specs.Fresh.{fresh}
use Rattle.card_store.proofs.Making.{made}
use Rattle.card_store.proofs.formatting.format.Goals as goal

pub returns-in-Ok-write_new-clause-told : goal.returns-in-Ok-write_new-clause-told
returns-in-Ok-write_new-clause-told g c = λ told.
    let is = rw c.in-Ok.ensures.card at c.in-Ok-home_octets.ensures.home in
    let m = made (fresh c.args.eid c.args.profiles) c.in-Ok-home_octets.home true _ _ _ told is (c.prepare.ensures.told told) (rw c.as_slice.ensures at (c.in-Ok-write_new.ensures.told (c.prepare.ensures.room.told ∙ told))) in
    (m.0, m.1 refl)

pub returns-in-Err-clause-told : goal.returns-in-Err-clause-told
returns-in-Err-clause-told g c = λ told.
    let is = rw c.in-Ok.ensures.card at c.in-Ok-home_octets.ensures.home in
    (made (fresh c.args.eid c.args.profiles) c.in-Ok-home_octets.home false _ _ _ told is (c.prepare.ensures.told told) (rw c.as_slice.ensures at (c.in-Err.ensures.told (c.prepare.ensures.room.told ∙ told)))).0
