use Rattle.std.proofs.Common.{arith}
use Rattle.eim_table.proofs.Keeping.{deleted_kept}
use Rattle.eim_table.proofs.table.Eims.delete.Goals as goal

pub invariant_of-self : goal.invariant_of-self
invariant_of-self c = record {
  eims = deleted_kept c.self.inside.entries.items c.take_out.new.entries.items c.self.inside.next c.args.id.now c.take_out.ensures.items c.self.invariant.eims;
  room = omega (arith, c.take_out.ensures.room, c.self.invariant.room);
}
