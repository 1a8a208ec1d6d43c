use Rattle.std.proofs.Common.{arith, ℕ, List, Option}
use Rattle.card_store.specs.declared.changes.Changes.{Changes}
use Rattle.card_store.proofs.Looking.{looks_none}
use Rattle.home_codec.specs.FullCards.{full_card}
use Rattle.card_store.proofs.Readying.{found_before, found_kept}
use Rattle.card_store.specs.Seats.{places_of}
use Rattle.card_store.proofs.Fronts.{home_len}
use Rattle.card_store.proofs.Trying.{tries_then, tries_fail}
use Rattle.card_store.proofs.staging.changes_to.Goals as goal

pub returns-in-Ok-clause-tries : goal.returns-in-Ok-clause-tries
returns-in-Ok-clause-tries g c = λ told.
    let looks = c.in-Ok.ensures.tries told in
    tries_then Changes 8 648 _ _ _ c.find.result looks (c.find.ensures.tries looks.told)

pub returns-in-Ok-clause-told : goal.returns-in-Ok-clause-told
returns-in-Ok-clause-told g c = found_before c.find.result 8 (full_card c.args.new.now) (g.C.Chip.sees c.args.chip.now) (g.C.Chip.sees c.read_numbers.new.chip) (λ told. c.in-Ok.ensures.tries told) c.find.ensures.told

pub returns-in-Ok-clause-slots : goal.returns-in-Ok-clause-slots
returns-in-Ok-clause-slots g c =
    let s0 = g.C.Chip.sees c.args.chip.now in
    let pending = (full_card c.args.new.now).card.results.pending in
    let kept = rw c.rows.ensures.rows at c.arrange.ensures.kept in
    found_kept c.find.result 8 s0 (g.C.Chip.sees c.read_numbers.new.chip) c.in-Ok.numbers (places_of pending c.arrange.result) (λ told. c.in-Ok.ensures.tries told)
    (λ told. let sound = g.met.C.Chip.sound c.args.chip.now told in home_len s0.reads (sound.sized s0.reads sound.reads_now))
    (λ told. c.in-Ok.ensures.told told) kept c.find.ensures.placed

pub returns-in-Err-clause-tries : goal.returns-in-Err-clause-tries
returns-in-Err-clause-tries g c = λ told. tries_fail (List (Option ℕ)) Changes 0 8 656 _ _ _ c.in-Err.error (omega arith) (looks_none _ told) (c.in-Err.ensures.tries told)
