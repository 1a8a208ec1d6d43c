use Rattle.std.proofs.Common.{◌≡◌, ◌∙◌, ◌+◌, ◌*◌, ◌<◌, ℕ, refl, sym, ap, subst, arith, length}
use Rattle.std.specs.Prelude.{None}
use Rattle.std.proofs.lemmas.List.{get_or_default}
use Rattle.undo_journal.specs.Home.{home_in}
use Rattle.card_store.specs.Comparing.{Fronted, IsListed}
use Rattle.card_store.specs.Looking.{Looks}
use Rattle.card_store.specs.Seats.{places_of, seated}
use Rattle.card_store.proofs.Looking.{looks_none, looks_then, looks_most}
use Rattle.card_store.proofs.Trying.{tries_fail}
use Rattle.card_store.proofs.Seating.{length-places, place_at}
use Rattle.card_store.proofs.finding.compare_slots.Goals as goal

pub loop-slot-init : goal.loop-slot-init
loop-slot-init g c = record {
  told = refl;
  monotone = omega arith;
  spare = record { calls_left = omega arith; octets_left = omega arith };
  looks = λ told. looks_none (g.C.Chip.sees c.args.chip.now) told;
  listed = λ is. is;
  fronted = λ told f start. start;
}

pub loop-slot-preserved : goal.loop-slot-preserved
loop-slot-preserved g c =
    let inv = c.loop-slot.invariant in
    let e = c.in-Ok.ensures in
    let s0 = g.C.Chip.sees c.args.chip.now in
    let s = g.C.Chip.sees c.compare_slot.new.chip in
    let slot = c.loop-slot.slot in
    let pending = c.args.pending.now in
    let seats = c.args.seats.now in
    let next : 72 * slot + 72 ≡ 72 * (slot + 1) = omega arith in
    let within : slot < length seats = omega (arith, c.told-seats, c.loop-slot-test.true) in
    let place = place_at pending seats slot ∙ ap (seated pending) (get_or_default seats slot None _ within) ∙ sym c.seated-place.ensures.result in
    record {
      told = e.cause.told ∙ inv.told;
      monotone = omega (arith, e.cause.monotone, inv.monotone);
      spare = record { calls_left = omega (arith, e.spare.calls_left, inv.spare.calls_left); octets_left = omega (arith, e.spare.octets_left, inv.spare.octets_left) };
      looks = λ told. subst (λ (n : ℕ). Looks n s0 s) next (looks_then (inv.looks told) (e.tries (inv.told ∙ told)));
      listed = λ is. e.listed (inv.listed is);
      fronted = λ told f start.
          let step = rw (ap home_in (inv.looks told).keeps.reads) at (e.told (inv.told ∙ told)) in
          step f (places_of pending seats) (length-places pending seats ∙ c.told-seats) place (inv.fronted told f start);
    }

pub returns-in-Err-clause-tries : goal.returns-in-Err-clause-tries
returns-in-Err-clause-tries g c = λ told.
    let inv = c.loop-slot.invariant in
    tries_fail (Unit {0}) (Unit {0}) (72 * c.loop-slot.slot) 72 576 _ _ _ c.in-Err.error (omega (arith, c.loop-slot-test.true)) (inv.looks told) (c.in-Err.ensures.tries (inv.told ∙ told))

pub returns-clause-tries : goal.returns-clause-tries
returns-clause-tries g c = λ told. looks_most (omega (arith, c.loop-slot.auto.slot-end)) (c.loop-slot.invariant.looks told)

pub returns-clause-listed : goal.returns-clause-listed
returns-clause-listed g c = λ is.
    let end : c.loop-slot.slot ≡ 8 = omega (arith, c.loop-slot-test.false, c.loop-slot.auto.slot-end) in
    subst (λ (n : ℕ). IsListed c.loop-slot.changes (25 + 81 * n)) end (c.loop-slot.invariant.listed is)

pub returns-clause-told : goal.returns-clause-told
returns-clause-told g c = λ told f start.
    let s0 = g.C.Chip.sees c.args.chip.now in
    let end : c.loop-slot.slot ≡ 8 = omega (arith, c.loop-slot-test.false, c.loop-slot.auto.slot-end) in
    subst (λ (n : ℕ). Fronted f (places_of c.args.pending.now c.args.seats.now) n c.loop-slot.changes (home_in s0.reads)) end (c.loop-slot.invariant.fronted told f start)
