use Rattle.std.proofs.Common.{◌≡◌, ◌∙◌, ◌++◌, ap, refl, ℕ, List, arith}
use Rattle.chip_port.proofs.Runs.{ran_then, ran_most}
use Rattle.undo_journal.specs.Home.{home_in, block_of}
use Rattle.card_store.proofs.Looking.{looks_none, looks_then, looks_most, looks_ran, blocks_on, blocks_all}
use Rattle.card_store.proofs.reading.read_home.Goals as goal

pub loop-block-init : goal.loop-block-init
loop-block-init g c = record {
  told = refl;
  monotone = omega arith;
  spare = record { calls_left = omega arith; octets_left = omega arith };
  looks = λ told. looks_none (g.C.Chip.sees c.args.chip.now) told;
  home = λ told. c.new-home.ensures;
}

pub returns-in-Err-clause-told : goal.returns-in-Err-clause-told
returns-in-Err-clause-told g c = λ told.
    let inv = c.loop-block.invariant in
    let s0 = g.C.Chip.sees c.args.chip.now in
    let looks = inv.looks told in
    ran_most (omega (arith, c.loop-block-test.true)) (ran_then (looks_ran _ s0.leaves s0 _ looks (λ i was. was)) (c.in-Err.ensures.told (inv.told ∙ told)) (λ i now. (looks.keeps.leaves i).1 now))

pub returns-then-is_err-clause-cause : goal.returns-then-is_err-clause-cause
returns-then-is_err-clause-cause g c =
    let inv = c.loop-block.invariant in
    let e = c.in-Ok.ensures in
    record { told = e.cause.told ∙ inv.told; monotone = omega (arith, e.cause.monotone, inv.monotone); cause = λ never. absurd (cc never) }

pub returns-then-is_err-clause-spare : goal.returns-then-is_err-clause-spare
returns-then-is_err-clause-spare g c =
    let inv = c.loop-block.invariant in
    let e = c.in-Ok.ensures in
    record { calls_left = omega (arith, e.spare.calls_left, inv.spare.calls_left); octets_left = omega (arith, e.spare.octets_left, inv.spare.octets_left) }

pub returns-then-is_err-clause-told : goal.returns-then-is_err-clause-told
returns-then-is_err-clause-told g c = λ told.
    let inv = c.loop-block.invariant in
    let r = c.in-Ok.ensures.told (inv.told ∙ told) in
    looks_most (omega (arith, c.loop-block-test.true)) (looks_then (inv.looks told) r.0)

pub loop-block-preserved : goal.loop-block-preserved
loop-block-preserved g c =
    let inv = c.loop-block.invariant in
    let e = c.in-Ok.ensures in
    let appended : c.append.new.self.items ≡ c.loop-block.home ++ c.in-Ok.octets = grind arith in
    record {
      told = e.cause.told ∙ inv.told;
      monotone = omega (arith, e.cause.monotone, inv.monotone);
      spare = record { calls_left = omega (arith, e.spare.calls_left, inv.spare.calls_left); octets_left = omega (arith, e.spare.octets_left, inv.spare.octets_left) };
      looks = λ told. looks_then (inv.looks told) (e.told (inv.told ∙ told)).0;
      home = λ told.
          let r = e.told (inv.told ∙ told) in
          let same = (inv.looks told).keeps.reads in
          appended ∙ blocks_on _ _ _ _ (inv.home told) (r.1 ∙ ap (λ (l : List ℕ). block_of (home_in l) c.loop-block.block) same);
    }

pub returns-clause-told : goal.returns-clause-told
returns-clause-told g c = λ told.
    let inv = c.loop-block.invariant in
    let s0 = g.C.Chip.sees c.args.chip.now in
    let sound = g.met.C.Chip.sound c.args.chip.now told in
    (looks_most (omega (arith, c.loop-block.auto)) (inv.looks told), blocks_all s0.reads _ c.loop-block.block (sound.sized s0.reads sound.reads_now) (omega (arith, c.loop-block-test.false)) (inv.home told))
