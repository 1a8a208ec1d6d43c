use Rattle.std.proofs.Common.{◌∙◌, ap}
use Rattle.std.specs.Prelude.{find}
use Rattle.small_card.specs.Cards.{EimList}
use Rattle.small_card.specs.EimOperations.{is_eim}
use Rattle.eim_table.proofs.table.Eims.find.Goals as goal

pub returns : goal.returns
returns c = record { found = c.copied.ensures ∙ c.entry_of.ensures ∙ ap (find (is_eim c.args.id.now)) (c.as_slice.ensures ∙ ap (λ (ms : EimList). ms.entries) c.self.view_is) }
