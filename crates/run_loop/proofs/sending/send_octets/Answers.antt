use Rattle.std.proofs.Common.{Err}
use Rattle.run_loop.proofs.Going.{sent_by}
use Rattle.run_loop.proofs.sending.send_octets.Goals as goal

pub returns-in-Err-clause-sent : goal.returns-in-Err-clause-sent
returns-in-Err-clause-sent g c = sent_by (g.K.Sink.sent c.args.sink.now) (g.K.Sink.sent c.send.new.sink) c.args.octets.now (Err c.in-Err.field-0) c.in-Err.ensures.octets c.in-Err.ensures.short
