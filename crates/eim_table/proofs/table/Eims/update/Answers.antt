use Rattle.std.proofs.Common.{◌∙◌, ap, arith, length, List}
use Rattle.small_card.specs.declared.types.EimEntry.{EimEntry}
use Rattle.eim_table.proofs.Keeping.{updated_kept, updated_length}
use Rattle.eim_table.proofs.table.Eims.update.Goals as goal

pub invariant_of-self : goal.invariant_of-self
invariant_of-self c =
    let few = ap (λ (es : List EimEntry). length es) c.set_fields.ensures.items ∙ updated_length c.args.id.now c.args.address c.args.key c.self.inside.entries.items in
    record {
      eims = updated_kept c.self.inside.entries.items c.set_fields.new.entries.items c.self.inside.next c.args.id.now c.args.address c.args.key c.set_fields.ensures.items c.self.invariant.eims;
      room = omega (arith, few, c.set_fields.ensures.room, c.self.invariant.room);
    }
