use Rattle.std.proofs.Common.{◌≡◌, ◌+◌, ◌≤◌}
use Rattle.iot_schedule.specs.Making.{state_before}
use Rattle.schedule_forms.specs.Pieces.{InPieces}
use Rattle.schedule_forms.proofs.generating.generate.Given as goal

abbrev pub invariant-loop-made : goal.invariant-loop-made
invariant-loop-made g l = record {
  pieces : InPieces l.start l.made (g.K.Sink.sent l.fn.sink) (g.K.Sink.sent l.sink) l.out;
  state : l.maker.state ≡ state_before l.start (l.made + 1);
  monotone : g.K.Sink.faults l.fn.sink ≤ g.K.Sink.faults l.sink;
}
