use Rattle.std.proofs.Common.{◌≡◌, ◌∙◌, ap, arith, get_or, slice_set, false}
use Rattle.std.proofs.lemmas.List.Edits.{map_over_more}
use Rattle.small_card.specs.Profiles.{with_state}
use Rattle.profile_table.proofs.rows.disable_all.Goals as goal

pub loop-at-preserved : goal.loop-at-preserved
loop-at-preserved c =
    let p = c.index-as_slice-at.result in
    let is : p ≡ get_or c.loop-at.rows c.loop-at.at p = c.index-as_slice-at.is ∙ ap (λ ps. get_or ps c.loop-at.at p) c.as_slice.ensures in
    c.set.ensures.items
    ∙ ap (slice_set c.loop-at.rows c.loop-at.at) c.disabled.ensures
    ∙ map_over_more (with_state false) c.args.rows.now c.loop-at.rows c.loop-at.at p (omega arith) c.loop-at.invariant is
