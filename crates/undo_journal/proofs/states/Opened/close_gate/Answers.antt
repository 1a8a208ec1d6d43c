use Rattle.std.proofs.Common.{ℕ, List, sym, ◌∙◌, subst}
use Rattle.undo_journal.specs.Home.{AreBlocks, kept}
use Rattle.undo_journal.proofs.Torn.{where_ok}
use Rattle.undo_journal.proofs.states.Opened.close_gate.Goals as goal

pub returns-clause-idle : goal.returns-clause-idle
returns-clause-idle g c = where_ok c.close.result _ (λ ok told.
    let closed = c.close.ensures in
    let told0 = sym closed.cause.told ∙ told in
    let fact = c.requires.opened told0 in
    (closed.told told0 c.args.self (kept c.args.self fact.0) fact.0 (subst (λ (l : List ℕ). AreBlocks l) c.self.view_is c.self.invariant) fact.1).idle ok)

pub returns-clause-told : goal.returns-clause-told
returns-clause-told g c = λ told before all.
    c.close.ensures.told told c.args.self (kept c.args.self before) before (subst (λ (l : List ℕ). AreBlocks l) c.self.view_is c.self.invariant) all
