use Rattle.run_loop.specs.Edges.{edge}
use Rattle.line_loop.specs.Parts.{scene}
use Rattle.line_loop.specs.Runs.{Progress}
use Rattle.line_loop.proofs.serving.handle.Given as goal

abbrev pub invariant-loop-handled : goal.invariant-loop-handled
invariant-loop-handled g l =
    let rest = g.S.Source.rest in
    let reads = g.S.Source.faults in
    let sent = g.K.Sink.sent in
    let writes = g.K.Sink.faults in
    g.P.LinePart.ready (scene l.part l.bench l.modems) × Progress (g.P.LinePart.behind (scene l.fn.part l.fn.bench l.fn.modems) (scene l.part l.bench l.modems)) (edge (rest l.fn.source) (reads l.fn.source) (sent l.fn.sink) (writes l.fn.sink)) (edge (rest l.source) (reads l.source) (sent l.sink) (writes l.sink)) l.handled
