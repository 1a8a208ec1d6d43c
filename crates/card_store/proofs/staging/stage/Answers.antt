use Rattle.std.proofs.Common.{◌≡◌, ◌∙◌, sym, true}
use Rattle.home_codec.specs.FullCards.{full_card}
use Rattle.card_store.specs.declared.changes.Changes.{Changes}
use Rattle.card_store.proofs.Readying.{found_ready, not_found, staged_where}
use Rattle.card_store.proofs.staging.stage.Goals as goal

pub returns-in-Ok-clause-told : goal.returns-in-Ok-clause-told
returns-in-Ok-clause-told g c = λ told.
    let looks = c.in-Ok.ensures.tries told in
    let r = c.ready.ensures in
    found_ready c.ready.result (full_card c.args.old.now) (full_card c.args.new) c.in-Ok.changes _ _ _ (c.requires.settled told) looks (c.in-Ok.ensures.told told) (c.in-Ok.ensures.slots told (full_card c.args.old.now) (c.requires.settled told)) (r.told looks.told) r.blocks r.octets r.card

pub returns-in-Ok-clause-staged : goal.returns-in-Ok-clause-staged
returns-in-Ok-clause-staged g c =
    let r = c.ready.ensures in
    let s2 = g.C.Chip.sees c.ready.new.chip in
    staged_where c.ready.result (full_card c.args.old.now) (g.C.Chip.sees c.args.chip.now) s2 (s2.told ≡ true) (λ told.
    let told1 = sym r.cause.told ∙ told in
    let told0 = sym c.in-Ok.ensures.cause.told ∙ told1 in
    let looks = c.in-Ok.ensures.tries told0 in
    found_ready c.ready.result (full_card c.args.old.now) (full_card c.args.new) c.in-Ok.changes _ _ _ (c.requires.settled told0) looks (c.in-Ok.ensures.told told0) (c.in-Ok.ensures.slots told0 (full_card c.args.old.now) (c.requires.settled told0)) (r.told told1) r.blocks r.octets r.card)

pub returns-in-Err-clause-told : goal.returns-in-Err-clause-told
returns-in-Err-clause-told g c = λ told. not_found Changes c.in-Err.error (full_card c.args.old.now) _ _ (c.requires.settled told) (c.in-Err.ensures.tries told)
