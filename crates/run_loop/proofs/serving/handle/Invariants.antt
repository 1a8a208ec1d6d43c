use Rattle.run_loop.specs.Edges.{edge}
use Rattle.run_loop.specs.Runs.{Progress}
use Rattle.run_loop.proofs.serving.handle.Given as goal

abbrev pub invariant-loop-handled : goal.invariant-loop-handled
invariant-loop-handled g l =
    let rest = g.S.Source.rest in
    let reads = g.S.Source.faults in
    let sent = g.K.Sink.sent in
    let writes = g.K.Sink.faults in
    g.P.Part.ready (l.part, l.outside) × Progress (g.P.Part.behind (l.fn.part, l.fn.outside) (l.part, l.outside)) (edge (rest l.fn.source) (reads l.fn.source) (sent l.fn.sink) (writes l.fn.sink)) (edge (rest l.source) (reads l.source) (sent l.sink) (writes l.sink)) l.handled
