use Rattle.world_text.proofs.Appending.{before, still_before, on_error}
use Rattle.world_text.proofs.modems.put_entries.Goals as goal

pub returns-in_err-put-clause-err : goal.returns-in_err-put-clause-err
returns-in_err-put-clause-err g c = λ view puts. on_error _ (still_before c.args.out.now c.loop-modem.out _ (before c.args.out.now _ c.loop-modem.out (c.loop-modem.invariant.put view puts)) (puts _ _ _ _ c.in_err-put.ensures).1)
