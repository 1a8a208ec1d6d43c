use Rattle.std.proofs.Common.{◌≡◌, arith, refl}
use Rattle.line_loop.specs.Parts.{scene}
use Rattle.line_loop.specs.declared.reading.TheConstants.{MOST_LINES}
use Rattle.line_loop.proofs.Ending.{at_first, read_no_more}
use Rattle.line_loop.proofs.serving.handle.Goals as goal

pub loop-handled-init : goal.loop-handled-init
loop-handled-init g c = (c.requires, at_first _ _ (g.met.P.LinePart.begins (scene c.args.part.now c.args.bench.now c.args.modems.now)))

pub loop-handled-preserved : goal.loop-handled-preserved
loop-handled-preserved g c = (c.in-Ok.ensures.ready, c.in-Ok.ensures.turned (scene c.args.part.now c.args.bench.now c.args.modems.now) _ c.loop-handled.handled (omega arith) c.loop-handled.invariant.1)

pub returns-in-Err : goal.returns-in-Err
returns-in-Err g c = rw c.from-number.ensures (c.in-Err.ensures.turned (scene c.args.part.now c.args.bench.now c.args.modems.now) _ c.loop-handled.handled (omega arith) c.loop-handled.invariant.1)

pub returns : goal.returns
returns g c =
    let all : c.loop-handled.handled ≡ MOST_LINES = omega (arith, c.loop-handled-test.false, c.loop-handled.auto.handled-end) in
    rw c.from.ensures (read_no_more _ _ _ _ _ MOST_LINES c.no_further-stop.result (omega arith) (rw all at c.loop-handled.invariant.1) c.no_further-stop.ensures.none refl c.no_further-stop.ensures.monotone (omega arith) c.no_further-stop.ensures.fault)
