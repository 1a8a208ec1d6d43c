use Rattle.std.proofs.Common.{◌≡◌, ◌+◌, refl, arith}
use Rattle.world_forms.proofs.Plays.{shown, stopped_at}
use Rattle.world_forms.proofs.playing.play_lines.Goals as goal

pub loop-made-preserved : goal.loop-made-preserved
loop-made-preserved g c =
    let was = c.loop-made.invariant in
    let line = c.in-Ok-play_line.ensures in
    record {
      state = line.state c.args.start was.state;
      ready = line.ready;
      played = λ view tells puts told. line.plays view tells puts c.args.bench.now c.args.start c.loop-made.made refl was.state _ (was.played view tells puts told);
    }

pub returns-in-Err-clause-went : goal.returns-in-Err-clause-went
returns-in-Err-clause-went g c = λ view tells puts told. stopped_at _ c.args.start 0 1 c.in-Err.stop _ _ _ refl (c.in-Err.ensures.begins view tells told)

pub returns-in-Err-play_line-clause-went : goal.returns-in-Err-play_line-clause-went
returns-in-Err-play_line-clause-went g c = λ view tells puts told.
    let was = c.loop-made.invariant in
    stopped_at _ c.args.start c.loop-made.made (c.loop-made.made + 1) c.in-Err-play_line.stop _ _ _ refl
    (c.in-Err-play_line.ensures.plays view tells puts c.args.bench.now c.args.start c.loop-made.made refl was.state _ (was.played view tells puts told))

pub returns-clause-went : goal.returns-clause-went
returns-clause-went g c = λ view tells puts told.
    let all : c.loop-made.made ≡ c.args.lines = omega (arith, c.loop-made-test.false, c.loop-made.auto.made-end, c.requires.some) in
    shown c.loop-made.play _ c.args.start c.args.lines _ _ _ (rw all at (c.loop-made.invariant.played view tells puts told))
