use Rattle.std.proofs.Common.{◌∙◌, ap, arith, get_or, slice_set, List}
use Rattle.std.proofs.lemmas.List.Edits.{map_over_more}
use Rattle.small_card.specs.EimOperations.{with_fields}
use Rattle.small_card.specs.declared.types.EimEntry.{EimEntry}
use Rattle.eim_table.proofs.entries.set_fields.Goals as goal

pub loop-at-preserved : goal.loop-at-preserved
loop-at-preserved c =
    let entry = c.index-as_slice-at.result in
    let is = c.index-as_slice-at.is ∙ ap (λ (xs : List EimEntry). get_or xs c.loop-at.at entry) c.as_slice.ensures in
    record {
      items = c.set.ensures.items ∙ ap (slice_set c.loop-at.entries.items c.loop-at.at) c.with_fields.ensures ∙ map_over_more (with_fields c.args.id.now c.args.address.now c.args.key.now) c.args.entries.now.items c.loop-at.entries.items c.loop-at.at entry (omega arith) c.loop-at.invariant.items is;
      room = c.set.ensures.spare ∙ c.loop-at.invariant.room;
    }
