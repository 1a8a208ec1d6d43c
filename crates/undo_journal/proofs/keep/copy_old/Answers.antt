use Rattle.std.proofs.Common.{arith, true, false, ◌≡◌, ℕ, ◌+◌, ◌*◌, ◌<◌, ◌∙◌, ap, refl, List, length, take, drop}
use Rattle.chip_port.specs.Rules.{Torn}
use Rattle.chip_port.proofs.Runs.{ran_none, ran_then, ran_most, not_ok}
use Rattle.chip_port.proofs.Apart.{torn_back}
use Rattle.undo_journal.specs.Steps.{directory_of}
use Rattle.undo_journal.proofs.Torn.{none_only, torn_inside}
use Rattle.undo_journal.proofs.Spelled.{length-directory}
use Rattle.undo_journal.proofs.Listing.{below_at}
use Rattle.undo_journal.proofs.Keeping.{region_before, region_next, kept_one, recorded_all}
use Rattle.undo_journal.proofs.keep.copy_old.Goals as goal

pub returns-in_err-write_directory-clause-told : goal.returns-in_err-write_directory-clause-told
returns-in_err-write_directory-clause-told g c = λ told.
    let s0 = g.C.Chip.sees c.args.chip.now in
    let start = ran_none (Torn 512 173824 s0.reads) s0 told (none_only _ _ s0 (c.requires.idle told).settled) in
    let w = c.in_err-write_directory.ensures.told told in
    let written = ran_then {ok = false} start w.ran (λ i q. torn_inside s0.reads _ _ q.0 i (omega arith) (omega (arith, c.requires.blocks.few)) (start.here q.0 q.1) q.2) in
    rw (not_ok _ c.from_residual.ensures.0) (record { ran = ran_most (omega arith) written; content = λ ok. absurd (cc ok) })

pub loop-entry-init : goal.loop-entry-init
loop-entry-init g c =
    let s0 = g.C.Chip.sees c.args.chip.now in
    let w = c.in_ok-write_directory.ensures in
    let m = length c.args.blocks.now in
    record {
      told = w.cause.told;
      monotone = w.cause.monotone;
      calls = omega (arith, w.spare.calls_left);
      octets = omega (arith, w.spare.octets_left);
      ran = λ told.
          let start = ran_none (Torn 512 173824 s0.reads) s0 told (none_only _ _ s0 (c.requires.idle told).settled) in
          ran_most (omega arith) (ran_then {ok = true} start (w.told told).ran (λ i q. torn_inside s0.reads _ _ q.0 i (omega arith) (omega (arith, c.requires.blocks.few)) (start.here q.0 q.1) q.2));
      directory = λ told.
          let sound = g.met.C.Chip.sound c.args.chip.now told in
          let size = sound.sized s0.reads sound.reads_now in
          ap (λ (l : List ℕ). take (2 + 2 * m) (drop 512 l)) ((w.told told).done refl)
          ∙ region_next 512 0 512 (2 + 2 * m) (directory_of c.args.blocks.now) s0.reads refl (omega (arith, length-directory c.args.blocks.now)) (omega (arith, length-directory c.args.blocks.now, size, c.requires.blocks.few));
      copies = λ told. refl;
    }

pub returns-in_err-keep_block-clause-told : goal.returns-in_err-keep_block-clause-told
returns-in_err-keep_block-clause-told g c = λ told.
    let s0 = g.C.Chip.sees c.args.chip.now in
    let run = c.loop-entry.invariant.ran told in
    let k = c.in_err-keep_block.ensures.told run.told in
    let copied = ran_then {ok = false} run k.ran (λ i q. torn_inside s0.reads _ _ q.0 i (omega arith) (omega (arith, c.requires.blocks.few)) (run.here q.0 q.1) q.2) in
    rw (not_ok _ c.from_residual-in_err-keep_block.ensures.0) (record { ran = ran_most (omega arith) copied; content = λ ok. absurd (cc ok) })

pub loop-entry-preserved : goal.loop-entry-preserved
loop-entry-preserved g c =
    let s0 = g.C.Chip.sees c.args.chip.now in
    let s = g.C.Chip.sees c.loop-entry.chip in
    let bs = c.args.blocks.now in
    let e = c.in_ok-keep_block.ensures in
    let inv = c.loop-entry.invariant in
    let at = c.loop-entry.entry in
    let lt : at < length bs = omega arith in
    let few = c.requires.blocks.few in
    record {
      told = e.cause.told ∙ inv.told;
      monotone = omega (arith, e.cause.monotone, inv.monotone);
      calls = omega (arith, e.spare.calls_left, inv.calls);
      octets = omega (arith, e.spare.octets_left, inv.octets);
      ran = λ told.
          let run = inv.ran told in
          let k = e.told run.told in
          ran_most (omega arith) (ran_then {ok = true} run k.ran (λ i q. torn_inside s0.reads _ _ q.0 i (omega arith) (omega (arith, few)) (run.here q.0 q.1) q.2));
      directory = λ told.
          let run = inv.ran told in
          let sound = g.met.C.Chip.sound c.loop-entry.chip run.told in
          let size = sound.sized s.reads sound.reads_now in
          ap (λ (l : List ℕ). take (2 + 2 * length bs) (drop 512 l)) ((e.told run.told).done refl)
          ∙ region_before 512 (2 + 2 * length bs) (2048 + 256 * at) _ s.reads (omega (arith, few)) (omega (arith, size, few))
          ∙ inv.directory told;
      copies = λ told.
          let run = inv.ran told in
          let sound = g.met.C.Chip.sound c.loop-entry.chip run.told in
          let size = sound.sized s.reads sound.reads_now in
          let same = torn_back 512 173824 174336 s0.reads s.reads (omega arith) (run.here s.reads sound.reads_now) in
          kept_one s0.reads s.reads _ bs at size lt few (below_at bs at c.requires.blocks lt) same ((e.told run.told).done refl) (inv.copies told);
    }

pub returns-clause-told : goal.returns-clause-told
returns-clause-told g c = λ told.
    let s0 = g.C.Chip.sees c.args.chip.now in
    let s = g.C.Chip.sees c.loop-entry.chip in
    let bs = c.args.blocks.now in
    let idle = c.requires.idle told in
    let inv = c.loop-entry.invariant in
    let run = inv.ran told in
    let whole : c.loop-entry.entry ≡ length bs = omega arith in
    let sound0 = g.met.C.Chip.sound c.args.chip.now told in
    let sound = g.met.C.Chip.sound c.loop-entry.chip run.told in
    record {
      ran = ran_most (omega arith) run;
      content = λ ok. recorded_all s0.reads s.reads bs c.loop-entry.entry c.requires.blocks (sound0.sized s0.reads sound0.reads_now) idle.front idle.shut (run.here s.reads sound.reads_now) whole (inv.directory told) (inv.copies told);
    }

pub keep_block-requires-clause-block : goal.keep_block-requires-clause-block
keep_block-requires-clause-block g c = below_at c.args.blocks.now c.loop-entry.entry c.requires.blocks (omega arith)
