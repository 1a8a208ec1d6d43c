use Rattle.std.proofs.Common.{arith, ◌≡◌, ◌<◌, ◌≤◌, ◌∙◌, refl, length}
use Rattle.chip_port.proofs.Runs.{ran_none, ran_then, ran_most, not_ok}
use Rattle.undo_journal.specs.Home.{count_of, entries}
use Rattle.undo_journal.specs.States.{IsOpenOver}
use Rattle.undo_journal.proofs.Gates.{home_torn}
use Rattle.undo_journal.proofs.Listing.{well_formed_lists, block_at}
use Rattle.undo_journal.proofs.Restoring.{put_back_one, put_back_all}
use Rattle.undo_journal.proofs.recovery.put_back.Goals as goal

pub entry-requires : goal.entry-requires
entry-requires g c =
    let lists = well_formed_lists c.args.directory.now c.requires.size c.requires.fit in
    omega (arith, lists.0.few, lists.1.counted)

pub restore-requires : goal.restore-requires
restore-requires g c =
    let lists = well_formed_lists c.args.directory.now c.requires.size c.requires.fit in
    let m : c.count-at-end.result ≡ count_of c.args.directory.now = c.count-at-end.ensures in
    let b = block_at c.args.directory.now c.loop-at.at c.entry.result c.requires.size c.requires.fit (omega arith) c.entry.ensures in
    let small : c.loop-at.at < 673 = omega (arith, lists.0.few, b.2) in
    record { calls = omega arith; octets = omega arith; entry = small; block = b.1 }

pub loop-at-init : goal.loop-at-init
loop-at-init g c =
    let s0 = g.C.Chip.sees c.args.chip.now in
    record {
      told = refl;
      monotone = omega arith;
      calls = omega arith;
      octets = omega arith;
      run = λ told copies before all. (ran_none (IsOpenOver (entries c.args.directory.now) copies before) s0 told all, (all s0.reads (g.met.C.Chip.sound c.args.chip.now told).reads_now).home);
    }

pub returns-in_err-restore-clause-told : goal.returns-in_err-restore-clause-told
returns-in_err-restore-clause-told g c = λ told copies before all.
    let D = c.args.directory.now in
    let lists = well_formed_lists D c.requires.size c.requires.fit in
    let b = block_at D c.loop-at.at c.entry.result c.requires.size c.requires.fit (omega (arith, c.count-at-end.ensures)) c.entry.ensures in
    let inv = c.loop-at.invariant in
    let k = c.in_err-restore.ensures.told (inv.told ∙ told) in
    let run = (inv.run told copies before all).0 in
    rw (not_ok _ c.from_residual.ensures.0) (record {
      ran = ran_most (omega (arith, lists.0.few, b.2)) (ran_then run k.ran (λ i q. home_torn (entries D) copies before c.entry.result q.0 i lists.0 b.3 (run.here q.0 q.1) q.2));
      home_now = λ ok. absurd (cc ok);
    })

pub loop-at-preserved : goal.loop-at-preserved
loop-at-preserved g c =
    let D = c.args.directory.now in
    let lists = well_formed_lists D c.requires.size c.requires.fit in
    let b = block_at D c.loop-at.at c.entry.result c.requires.size c.requires.fit (omega (arith, c.count-at-end.ensures)) c.entry.ensures in
    let inv = c.loop-at.invariant in
    let e = c.in_ok-restore.ensures in
    record {
      told = e.cause.told ∙ inv.told;
      monotone = omega (arith, e.cause.monotone, inv.monotone);
      calls = omega (arith, e.spare.calls_left, inv.calls);
      octets = omega (arith, e.spare.octets_left, inv.octets);
      run = λ told copies before all.
          let so_far = inv.run told copies before all in
          let k = e.told (inv.told ∙ told) in
          let s = g.C.Chip.sees c.loop-at.chip in
          let o = so_far.0.here s.reads (g.met.C.Chip.sound c.loop-at.chip (inv.told ∙ told)).reads_now in (
            ran_most (omega arith) (ran_then so_far.0 k.ran (λ i q. home_torn (entries D) copies before c.entry.result q.0 i lists.0 b.3 (so_far.0.here q.0 q.1) q.2)),
            put_back_one (entries D) copies s.reads _ before c.loop-at.at c.entry.result b.2 b.0 b.1 o.keeps.size o.keeps.copies (k.done refl) so_far.1,
          );
    }

pub returns-clause-told : goal.returns-clause-told
returns-clause-told g c = λ told copies before all.
    let D = c.args.directory.now in
    let lists = well_formed_lists D c.requires.size c.requires.fit in
    let all_of : length (entries D) ≤ c.loop-at.at = omega (arith, c.count-at-end.ensures, lists.1.counted) in
    let inv = c.loop-at.invariant in
    let so_far = inv.run told copies before all in
    record {
      ran = ran_most (omega (arith, c.count-at-end.ensures, lists.0.few, lists.1.counted)) so_far.0;
      home_now = λ ok. put_back_all (entries D) copies _ before c.loop-at.at all_of so_far.1;
    }

pub returns-in_err-restore-clause-spare : goal.returns-in_err-restore-clause-spare
returns-in_err-restore-clause-spare g c =
    let lists = well_formed_lists c.args.directory.now c.requires.size c.requires.fit in
    let taken = c.in_err-restore.ensures.spare in
    record { calls_left = omega (arith, c.count-at-end.ensures, lists.0.few, lists.1.counted, taken.calls_left); octets_left = omega (arith, c.count-at-end.ensures, lists.0.few, lists.1.counted, taken.octets_left) }

pub returns-clause-spare : goal.returns-clause-spare
returns-clause-spare g c =
    let lists = well_formed_lists c.args.directory.now c.requires.size c.requires.fit in
    record { calls_left = omega (arith, c.count-at-end.ensures, lists.0.few, lists.1.counted); octets_left = omega (arith, c.count-at-end.ensures, lists.0.few, lists.1.counted) }
