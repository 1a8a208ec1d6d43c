use Rattle.std.proofs.Common.{◌∙◌, refl, arith, sym, subst, ℕ, List, Option}
use Rattle.std.proofs.Math.ListN.{length-set}
use Rattle.undo_journal.specs.Home.{home_in}
use Rattle.card_store.specs.Slots.{StandIn, numbers_of}
use Rattle.card_store.proofs.Homes.{number_set, same_at, length-numbers}
use Rattle.card_store.proofs.Looking.{looks_none, looks_then, looks_most}
use Rattle.card_store.proofs.Trying.{tries_fail}
use Rattle.card_store.proofs.seats.read_numbers.Goals as goal

pub loop-slot-init : goal.loop-slot-init
loop-slot-init g c = record {
  told = refl;
  monotone = omega arith;
  spare = record { calls_left = omega arith; octets_left = omega arith };
  looks = λ told. looks_none (g.C.Chip.sees c.args.chip.now) told;
  all = refl;
  numbers = λ told places stand slot lt. absurd (omega (arith, lt));
}

pub loop-slot-preserved : goal.loop-slot-preserved
loop-slot-preserved g c =
    let inv = c.loop-slot.invariant in
    let e = c.in-Ok.ensures in
    let at = c.loop-slot.slot in
    record {
      told = e.cause.told ∙ inv.told;
      monotone = omega (arith, e.cause.monotone, inv.monotone);
      spare = record { calls_left = omega (arith, e.spare.calls_left, inv.spare.calls_left); octets_left = omega (arith, e.spare.octets_left, inv.spare.octets_left) };
      looks = λ told. looks_then (inv.looks told) (e.tries (inv.told ∙ told));
      all = length-set c.loop-slot.numbers at c.in-Ok.number ∙ inv.all;
      numbers = λ told places stand.
          let here = e.told (inv.told ∙ told) places (subst (λ (i : List ℕ). StandIn places (home_in i)) (sym (inv.looks told).keeps.reads) stand) in
          number_set c.loop-slot.numbers (numbers_of places) at c.in-Ok.number (omega (arith, inv.all, c.loop-slot-test.true)) (inv.numbers told places stand) here;
    }

pub returns-in-Err-clause-tries : goal.returns-in-Err-clause-tries
returns-in-Err-clause-tries g c = λ told.
    let inv = c.loop-slot.invariant in
    tries_fail (Option ℕ) (List (Option ℕ)) c.loop-slot.slot 1 8 _ _ _ c.in-Err.error (omega (arith, c.loop-slot-test.true)) (inv.looks told) (c.in-Err.ensures.tries (inv.told ∙ told))

pub returns-clause-tries : goal.returns-clause-tries
returns-clause-tries g c = λ told. looks_most (omega (arith, c.loop-slot.auto.slot-end)) (c.loop-slot.invariant.looks told)

pub returns-clause-told : goal.returns-clause-told
returns-clause-told g c = λ told places stand.
    let inv = c.loop-slot.invariant in
    same_at c.loop-slot.numbers (numbers_of places) (inv.all ∙ sym (length-numbers places ∙ stand.all)) (λ slot lt. inv.numbers told places stand slot (omega (arith, lt, inv.all, c.loop-slot-test.false)))
