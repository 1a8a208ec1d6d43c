use Rattle.std.proofs.Common.{◌∙◌, ap, sym}
use Rattle.std.specs.Prelude.{position}
use Rattle.small_card.specs.EimOperations.{is_eim}
use Rattle.eim_table.proofs.Keeping.{removed_eim, no_eim}
use Rattle.eim_table.proofs.entries.take_out.Goals as goal

pub returns-in-Some-clause-items : goal.returns-in-Some-clause-items
returns-in-Some-clause-items c =
    let t = is_eim c.args.id.now in
    c.remove.ensures.rest ∙ removed_eim c.args.id.now c.args.entries.now.items c.in-Some.at c.requires (ap (position t) (sym c.as_slice.ensures) ∙ sym c.in-Some.ensures)

pub returns-in_default-clause-items : goal.returns-in_default-clause-items
returns-in_default-clause-items c =
    let t = is_eim c.args.id.now in
    sym (no_eim c.args.id.now c.args.entries.now.items (ap (position t) (sym c.as_slice.ensures) ∙ sym c.in_default.ensures))
