use Rattle.std.proofs.Common.{◌∙◌, ap, arith, length, List}
use Rattle.small_card.specs.declared.types.EimEntry.{EimEntry}
use Rattle.eim_table.proofs.Keeping.{counted_kept, counted_length}
use Rattle.eim_table.proofs.table.Eims.accept.Goals as goal

pub invariant_of-self : goal.invariant_of-self
invariant_of-self c =
    let few = ap (λ (es : List EimEntry). length es) c.set_counter.ensures.items ∙ counted_length c.args.id.now c.args.counter c.self.inside.entries.items in
    record {
      eims = counted_kept c.self.inside.entries.items c.set_counter.new.entries.items c.self.inside.next c.args.id.now c.args.counter c.set_counter.ensures.items c.self.invariant.eims;
      room = omega (arith, few, c.set_counter.ensures.room, c.self.invariant.room);
    }
