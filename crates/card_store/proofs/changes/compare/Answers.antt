use Rattle.std.proofs.Common.{◌≡◌, ◌∙◌, ◌+◌, ℕ, refl, sym, ap, subst, arith}
use Rattle.undo_journal.specs.Home.{home_in}
use Rattle.card_store.specs.Comparing.{IsListed}
use Rattle.card_store.proofs.Compared.{compared_start, compared_step, compared_end, listed_more}
use Rattle.card_store.proofs.Looking.{looks_none, looks_then, looks_most}
use Rattle.card_store.proofs.Trying.{tries_fail}
use Rattle.card_store.proofs.changes.compare.Goals as goal

pub loop-at-init : goal.loop-at-init
loop-at-init g c =
    let s0 = g.C.Chip.sees c.args.chip.now in
    let none : c.args.first + 0 ≡ c.args.first = omega arith in
    record {
      told = refl;
      monotone = omega arith;
      spare = record { calls_left = omega arith; octets_left = omega arith };
      within = omega arith;
      looks = λ told. looks_none s0 told;
      listed = λ is. subst (λ (n : ℕ). IsListed c.args.changes.now n) (sym none) is;
      compared = λ told. compared_start c.args.changes.now c.args.first c.args.octets.now (home_in s0.reads);
    }

pub loop-at-preserved : goal.loop-at-preserved
loop-at-preserved g c =
    let inv = c.loop-at.invariant in
    let e = c.in-Ok.ensures in
    let s0 = g.C.Chip.sees c.args.chip.now in
    let at = c.loop-at.at in
    let next : c.args.first + at + 1 ≡ c.args.first + (at + 1) = omega arith in
    record {
      told = e.cause.told ∙ inv.told;
      monotone = omega (arith, e.cause.monotone, inv.monotone);
      spare = record { calls_left = omega (arith, e.spare.calls_left, inv.spare.calls_left); octets_left = omega (arith, e.spare.octets_left, inv.spare.octets_left) };
      within = omega (arith, c.loop-at-test.true);
      looks = λ told. looks_then (inv.looks told) (e.tries (inv.told ∙ told));
      listed = λ is. subst (λ (n : ℕ). IsListed c.compare_block.new.changes n) next (e.listed (inv.listed is));
      compared = λ told.
          let same = (inv.looks told).keeps.reads in
          let step = rw (ap home_in same, c.piece_of.ensures.piece) at (e.told (inv.told ∙ told)) in
          compared_step c.args.changes.now c.loop-at.changes c.compare_block.new.changes c.args.first at (c.args.first + at) c.args.octets.now _ (home_in s0.reads) c.requires.inside c.loop-at-test.true refl refl (inv.compared told) step;
    }

pub returns-in-Err-clause-tries : goal.returns-in-Err-clause-tries
returns-in-Err-clause-tries g c = λ told.
    let inv = c.loop-at.invariant in
    tries_fail (Unit {0}) (Unit {0}) c.loop-at.at 1 72 _ _ _ c.in-Err.error (omega (arith, c.loop-at-test.true, c.requires.few)) (inv.looks told) (c.in-Err.ensures.tries (inv.told ∙ told))

pub returns-clause-tries : goal.returns-clause-tries
returns-clause-tries g c = λ told. let inv = c.loop-at.invariant in looks_most (omega (arith, inv.within, c.requires.few)) (inv.looks told)

pub returns-clause-listed : goal.returns-clause-listed
returns-clause-listed g c = λ end room is.
    let inv = c.loop-at.invariant in
    listed_more c.loop-at.changes (c.args.first + c.loop-at.at) end (omega (arith, inv.within, room)) (inv.listed is)

pub returns-clause-told : goal.returns-clause-told
returns-clause-told g c = λ told end room.
    let inv = c.loop-at.invariant in
    let s0 = g.C.Chip.sees c.args.chip.now in
    compared_end c.args.changes.now c.loop-at.changes c.args.first c.loop-at.at end c.args.octets.now (home_in s0.reads) (omega (arith, c.loop-at-test.false)) (omega (arith, inv.within, room)) (inv.compared told)
