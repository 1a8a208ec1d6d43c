use Rattle.std.proofs.Common.{Ok, Err}
use Rattle.run_loop.proofs.Going.{sent_by}
use Rattle.schedule_forms.proofs.Piecing.{flushed_ok, flushed_into}
use Rattle.schedule_forms.proofs.generating.send_all.Goals as goal

pub returns-in-Ok-clause-flushed : goal.returns-in-Ok-clause-flushed
returns-in-Ok-clause-flushed g c = λ sent0 start count p.
    let here = sent_by (g.K.Sink.sent c.args.sink.now) (g.K.Sink.sent c.send.new.sink) c.as_slice.result.now (Ok c.in-Ok.field-0) c.in-Ok.ensures.octets c.in-Ok.ensures.short in
    (c.cut.ensures, flushed_ok start count sent0 _ _ c.args.out.now p (rw c.as_slice.ensures at here))

pub returns-in-Err-clause-flushed : goal.returns-in-Err-clause-flushed
returns-in-Err-clause-flushed g c = λ sent0 start count p.
    let here = sent_by (g.K.Sink.sent c.args.sink.now) (g.K.Sink.sent c.send.new.sink) c.as_slice.result.now (Err c.in-Err.field-0) c.in-Err.ensures.octets c.in-Err.ensures.short in
    flushed_into start count sent0 _ _ c.args.out.now p (rw c.as_slice.ensures at here)
