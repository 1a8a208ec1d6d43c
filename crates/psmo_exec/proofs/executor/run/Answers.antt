use Rattle.psmo_exec.proofs.Looking.{run_execute}
use Rattle.psmo_exec.proofs.executor.run.Goals as goal

pub returns : goal.returns
returns c = λ eims.
    let end = rw c.as_slice.ensures at c.in_ok-items.ensures in
    run_execute c.enabled-former.result c.armed_profile-armed.result c.args.table c.args.ops.now c.run_all.new.table c.in_ok-items.field-0.items c.in_ok-items.field-0.armed eims c.enabled-former.ensures end c.armed_profile-armed.ensures
