use Rattle.run_loop.proofs.Ending.{unopened}
use Rattle.run_loop.proofs.serving.end_unopened.Goals as goal

pub returns : goal.returns
returns g c = λ rest reads.
    unopened rest _ _ reads _ _ c.args.stop c.send_stop_record-closing.result c.send_stop_record-closing.ensures.closes c.send_stop_record-closing.ensures.monotone c.send_stop_record-closing.ensures.fault
