use Rattle.std.proofs.Common.{◌∙◌, ap, sym, subst, arith, ℕ, List}
use Rattle.small_card.specs.declared.types.PackageResult.{PackageResult}
use Rattle.small_card.specs.Lists.{Every}
use Rattle.small_card.specs.Ranges.{IsResult}
use Rattle.home_codec.specs.FullCards.{full_card}
use Rattle.home_codec.proofs.Parts.{pending_fit}
use Rattle.undo_journal.specs.Home.{home_in}
use Rattle.card_store.specs.declared.changes.Changes.{Changes}
use Rattle.card_store.specs.Seats.{places_of}
use Rattle.card_store.proofs.Fronts.{all_compared, home_len}
use Rattle.card_store.specs.Slots.{StandIn}
use Rattle.card_store.proofs.Homes.{places_range, front_stands}
use Rattle.card_store.proofs.Looking.{looks_none}
use Rattle.card_store.proofs.Seating.{length-places}
use Rattle.card_store.proofs.Trying.{tries_fail}
use Rattle.card_store.proofs.finding.find.Goals as goal

pub returns-in-Err-clause-tries : goal.returns-in-Err-clause-tries
returns-in-Err-clause-tries g c = λ told. tries_fail (Unit {0}) Changes 0 72 648 _ _ _ c.in-Err.error (omega arith) (looks_none _ told) (c.in-Err.ensures.tries told)

pub compare_slots-requires : goal.compare_slots-requires
compare_slots-requires g c =
    let f = full_card c.args.new.now in
    record { ranges = subst (λ (l : List PackageResult). Every IsResult l) (sym c.rows.ensures.rows) (pending_fit f.card.results.next f.card.results.pending c.requires.valid.card.results.each) }

pub returns-in-Ok-compare_slots-clause-told : goal.returns-in-Ok-compare_slots-clause-told
returns-in-Ok-compare_slots-clause-told g c = λ told.
    let f = full_card c.args.new.now in
    let s0 = g.C.Chip.sees c.args.chip.now in
    let sound = g.met.C.Chip.sound c.args.chip.now told in
    let looks = c.in-Ok.ensures.tries told in
    let places = places_of f.card.results.pending c.args.seats.now in
    let slots = rw (c.rows.ensures.rows, ap home_in looks.keeps.reads) at (c.in-Ok-compare_slots.ensures.told looks.told) in
    all_compared f places c.compare_slots.new.changes (home_in s0.reads) (length-places f.card.results.pending c.args.seats.now ∙ c.requires.seats.all) c.requires.seats.each (home_len s0.reads (sound.sized s0.reads sound.reads_now))
    (slots f (c.in-Ok.ensures.told told places))

pub returns-in-Ok-compare_slots-clause-placed : goal.returns-in-Ok-compare_slots-clause-placed
returns-in-Ok-compare_slots-clause-placed g c = λ told.
    let f = full_card c.args.new.now in
    let looks = c.in-Ok.ensures.tries told in
    let pending = f.card.results.pending in
    let places = places_of pending c.args.seats.now in
    let slots = rw (c.rows.ensures.rows, ap home_in looks.keeps.reads) at (c.in-Ok-compare_slots.ensures.told looks.told) in
    let all = slots f (c.in-Ok.ensures.told told places) in
    let ranges = places_range pending c.args.seats.now (pending_fit f.card.results.next pending c.requires.valid.card.results.each) in
    subst (λ (l : List ℕ). StandIn places l) (sym all.compared.makes) (front_stands f places all.home (length-places pending c.args.seats.now ∙ c.requires.seats.all) ranges all.front)

pub returns-in-Err-compare_slots-clause-tries : goal.returns-in-Err-compare_slots-clause-tries
returns-in-Err-compare_slots-clause-tries g c = λ told.
    let looks = c.in-Ok.ensures.tries told in
    tries_fail (Unit {0}) Changes 72 576 648 _ _ _ c.in-Err-compare_slots.error (omega arith) looks (c.in-Err-compare_slots.ensures.tries looks.told)
