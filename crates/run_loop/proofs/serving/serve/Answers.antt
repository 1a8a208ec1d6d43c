use Rattle.run_loop.proofs.Ending.{ended}
use Rattle.run_loop.proofs.serving.serve.Goals as goal

pub returns : goal.returns
returns g c =
    ended _ _ _ _ _ _ _ _ _ c.handle-last.result.number c.handle-last.result.halt c.send_stop_record-closing.result c.handle-last.ensures c.send_stop_record-closing.ensures.closes c.send_stop_record-closing.ensures.monotone c.send_stop_record-closing.ensures.fault
