use Rattle.std.proofs.Common.{ap, ◌∙◌}
use Rattle.std.specs.Prelude.{find}
use Rattle.small_card.specs.Cards.{Results}
use Rattle.small_card.specs.Units.{has_seq}
use Rattle.result_store.proofs.Keeping.{found_iff}
use Rattle.result_store.proofs.store.Store.get.Goals as goal

pub returns-clause-there : goal.returns-clause-there
returns-clause-there c = found_iff c.args.self.now c.find_result.result c.args.seq
    (c.find_result.ensures ∙ ap (find (has_seq c.args.seq)) (c.as_slice.ensures ∙ ap (λ (rs : Results). rs.pending) c.self.view_is))
