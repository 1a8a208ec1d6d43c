use Rattle.std.proofs.Common.{refl}
use Rattle.home_codec.proofs.Parts.{no_table, table_apart}
use Rattle.home_codec.proofs.fitting.table_of.Goals as goal

pub returns-in-Ok : goal.returns-in-Ok
returns-in-Ok c = (c.in-Ok.ensures.same, table_apart c.args.profiles c.in-Ok.ensures.exact)

pub returns-in-Err : goal.returns-in-Err
returns-in-Err c = (refl, no_table c.args.profiles c.requires c.in-Err.ensures.exact)
