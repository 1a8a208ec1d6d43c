use Rattle.std.proofs.Common.{◌≡◌, ◌∙◌, ◌+◌, ap, sym, refl, arith, false, length, List, [], ◌∷◌}
use Rattle.std.proofs.lemmas.List.{length-append}
use Rattle.small_card.specs.Cards.{EimList}
use Rattle.small_card.specs.EimOperations.{has_eim, do_eco}
use Rattle.small_card.specs.declared.types.Eco.TheVariants as eco
use Rattle.small_card.specs.declared.types.EimEntry.{EimEntry}
use Rattle.eim_table.specs.Adding.{item_of}
use Rattle.eim_table.proofs.Keeping.{more_kept, add_done}
use Rattle.eim_table.proofs.table.Eims.add.Goals as goal

pub invariant_of-self : goal.invariant_of-self
invariant_of-self c =
    let entry : EimEntry = record { id = c.args.id; address = c.args.address; key = c.args.key; counter = 0; association = c.self.inside.next } in
    let fresh : has_eim c.args.id c.self.inside.entries.items ≡ false = ap (has_eim c.args.id) (sym c.as_slice.ensures) ∙ sym c.if-has_eim.ensures in
    let few : length c.put_last.new.entries.items ≡ length c.self.inside.entries.items + 1 = ap (λ (es : List EimEntry). length es) c.put_last.ensures.items ∙ length-append c.self.inside.entries.items (entry ∷ []) in
    record {
      eims = more_kept c.self.inside.entries.items c.put_last.new.entries.items c.self.inside.next entry refl fresh (omega (arith, c.len.ensures)) (omega arith) c.put_last.ensures.items c.self.invariant.eims;
      room = omega (arith, few, c.put_last.ensures.room, c.self.invariant.room);
    }

pub returns-clause-operation : goal.returns-clause-operation
unfolding item_of
returns-clause-operation c =
    let fresh : has_eim c.args.id c.self.inside.entries.items ≡ false = ap (has_eim c.args.id) (sym c.as_slice.ensures) ∙ sym c.if-has_eim.ensures in
    add_done c.args.id c.args.address c.args.key c.self.inside.entries.items c.put_last.new.entries.items c.self.inside.next fresh (omega (arith, c.len.ensures)) (omega arith) c.put_last.ensures.items
    ∙ ap (λ (ms : EimList). do_eco ms (eco.Add c.args.id c.args.address c.args.key)) c.self.view_is
