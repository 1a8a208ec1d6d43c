use Rattle.std.proofs.Common.{arith, refl}
use Rattle.result_store.proofs.Keeping.{put_kept, room_of}
use Rattle.result_store.proofs.store.Store.put.Goals as goal

pub invariant_of-self : goal.invariant_of-self
invariant_of-self c = record {
  store = put_kept c.self.inside.pending.items c.put_last.new.pending.items c.self.inside.next _ c.self.invariant.store (room_of _ _ c.self.view_is c.requires) refl c.put_last.ensures.items;
  memory = omega (arith, c.self.invariant.memory, c.put_last.ensures.memory);
}
