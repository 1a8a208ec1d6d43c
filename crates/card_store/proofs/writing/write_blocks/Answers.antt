use Rattle.std.proofs.Common.{◌≡◌, ◌*◌, arith, List, ℕ, ◌∙◌, refl, ap, subst, get_or, Some}
use Rattle.chip_port.specs.Rules.{put}
use Rattle.chip_port.proofs.Runs.{ran_none, ran_then, ran_most, not_ok}
use Rattle.undo_journal.specs.Home.{home, home_in, kept, AreBlocks}
use Rattle.undo_journal.specs.States.{Has}
use Rattle.undo_journal.proofs.Gates.{opened_home}
use Rattle.undo_journal.proofs.Listing.{has_at}
use Rattle.undo_journal.proofs.Restoring.{put_back_all}
use Rattle.card_store.proofs.Blocks.{written_one}
use Rattle.card_store.proofs.writing.write_blocks.Goals as goal

pub loop-at-init : goal.loop-at-init
loop-at-init g c = record {
  told = refl;
  monotone = omega arith;
  calls = omega arith;
  octets = omega arith;
  opened = c.requires.opened;
  ran = λ told before all.
      let are : AreBlocks c.args.opened.now = subst (λ (l : List ℕ). AreBlocks l) c.requires.same c.requires.blocks in
      (ran_none (λ i. home i ≡ Some before) (g.C.Chip.sees c.args.chip.now) told (λ i was. opened_home c.args.opened.now (kept c.args.opened.now before) before i are (all i was)), all);
  home = λ told. refl;
}

pub write_home-requires-clause-calls : goal.write_home-requires-clause-calls
write_home-requires-clause-calls g c = let inv = c.loop-at.invariant in omega (arith, inv.calls, c.requires.calls, c.loop-at-test.true)

pub write_home-requires-clause-octets : goal.write_home-requires-clause-octets
write_home-requires-clause-octets g c = let inv = c.loop-at.invariant in omega (arith, inv.octets, c.requires.spare, c.loop-at-test.true)

pub write_home-requires-clause-kept : goal.write_home-requires-clause-kept
write_home-requires-clause-kept g c =
    let same = c.requires.same in
    subst (λ (l : List ℕ). Has (get_or c.args.blocks.now c.loop-at.at 0) l) same (has_at c.args.blocks.now c.loop-at.at c.loop-at-test.true)

pub write_home-requires-clause-opened : goal.write_home-requires-clause-opened
write_home-requires-clause-opened g c = c.loop-at.invariant.opened

pub returns-in_err-write_home-clause-told : goal.returns-in_err-write_home-clause-told
returns-in_err-write_home-clause-told g c = λ told before all.
    let inv = c.loop-at.invariant in
    let run = inv.ran told before all in
    let e = c.in_err-write_home.ensures.told (inv.told ∙ told) before run.1 in
    rw (not_ok _ c.from_residual.ensures.0) (record {
      ran = ran_most (omega (arith, c.loop-at-test.true)) (ran_then run.0 e.ran (λ i o. o));
      opened = e.opened;
      home_now = λ ok. absurd (cc ok);
    })

pub loop-at-preserved : goal.loop-at-preserved
loop-at-preserved g c =
    let inv = c.loop-at.invariant in
    let e = c.in_ok-write_home.ensures in
    let k = c.loop-at.at in
    let blocks = c.args.blocks.now in
    let octets = c.args.octets.now in
    let s = g.C.Chip.sees c.loop-at.chip in
    record {
      told = e.cause.told ∙ inv.told;
      monotone = omega (arith, e.cause.monotone, inv.monotone);
      calls = omega (arith, e.spare.calls_left, inv.calls);
      octets = omega (arith, e.spare.octets_left, inv.octets);
      opened = e.opened;
      ran = λ told before all. let run = inv.ran told before all in let h = e.told (inv.told ∙ told) before run.1 in (ran_then run.0 h.ran (λ i o. o), h.opened);
      home = λ told.
          let opened = inv.opened (inv.told ∙ told) in
          let now = (e.told (inv.told ∙ told) opened.0 opened.1).home_now refl in
          written_one blocks octets (home_in s.reads) _ _ k (get_or blocks k 0) c.loop-at-test.true refl (now ∙ ap (λ (l : List ℕ). put (home_in s.reads) (256 * get_or blocks k 0) l) c.block_of.ensures) (inv.home told);
    }

pub returns-clause-told : goal.returns-clause-told
returns-clause-told g c = λ told before all.
    let inv = c.loop-at.invariant in
    let run = inv.ran told before all in
    record {
      ran = ran_most (omega (arith, c.loop-at.auto.at-end)) run.0;
      opened = run.1;
      home_now = λ ok. put_back_all c.args.blocks.now c.args.octets.now _ _ c.loop-at.at (omega (arith, c.loop-at-test.false)) (inv.home told);
    }
