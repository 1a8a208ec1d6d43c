use Rattle.std.proofs.Common.{◌++◌, codes, ap, ◌∙◌}
use Rattle.small_world.specs.Texts.{modems_text}
use Rattle.world_text.proofs.Appending.{behind, failed_behind}
use Rattle.world_text.proofs.modems.put_modems_by.Goals as goal

pub returns-clause-ok : goal.returns-clause-ok
unfolding modems_text
returns-clause-ok g c = λ view puts.
    let labelled = c.in_ok-append.ensures.ok ∙ ap (λ z. z ++ codes "modems") c.deref_mut.ensures.items in
    behind _ c.args.out.now (codes "modems") _ _ _ labelled (c.put_entries.ensures.ok view puts)

pub returns-clause-err : goal.returns-clause-err
returns-clause-err g c = λ view puts.
    let labelled = c.in_ok-append.ensures.ok ∙ ap (λ z. z ++ codes "modems") c.deref_mut.ensures.items in
    failed_behind _ c.args.out.now (codes "modems") _ _ labelled (c.put_entries.ensures.err view puts)
