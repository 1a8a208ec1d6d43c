use Rattle.std.proofs.Common.{◌≡◌, ◌∙◌, ap, arith, get_or, slice_set}
use Rattle.std.proofs.lemmas.List.Edits.{map_over_more}
use Rattle.small_card.specs.Profiles.{with_state, is_iccid}
use Rattle.profile_table.proofs.rows.enable_alone.Goals as goal

pub loop-at-preserved : goal.loop-at-preserved
loop-at-preserved c =
    let p = c.index-as_slice-at.result in
    let is : p ≡ get_or c.loop-at.rows c.loop-at.at p = c.index-as_slice-at.is ∙ ap (λ ps. get_or ps c.loop-at.at p) c.as_slice.ensures in
    c.set.ensures.items
    ∙ ap (slice_set c.loop-at.rows c.loop-at.at) c.enabled_by.ensures
    ∙ map_over_more (λ p. with_state (is_iccid c.args.iccid.now p) p) c.args.rows.now c.loop-at.rows c.loop-at.at p (omega arith) c.loop-at.invariant is
