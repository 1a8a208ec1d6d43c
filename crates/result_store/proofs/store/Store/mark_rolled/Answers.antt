use Rattle.std.proofs.Common.{arith}
use Rattle.result_store.proofs.Keeping.{marked_kept, next_of}
use Rattle.result_store.proofs.store.Store.mark_rolled.Goals as goal

pub invariant_of-self : goal.invariant_of-self
invariant_of-self c = record {
  store = marked_kept c.self.inside.pending.items c.mark_last.new.pending.items c.self.inside.next c.args.seq c.self.invariant.store (next_of _ _ c.self.view_is c.requires.number) c.mark_last.ensures.items;
  memory = omega (arith, c.self.invariant.memory, c.mark_last.ensures.memory);
}
