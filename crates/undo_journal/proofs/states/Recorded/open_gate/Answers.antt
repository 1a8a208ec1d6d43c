use Rattle.std.proofs.Common.{List, ℕ, sym, ◌∙◌, refl, subst}
use Rattle.chip_port.proofs.Runs.{not_ok}
use Rattle.undo_journal.specs.Home.{AreBlocks}
use Rattle.undo_journal.proofs.states.Recorded.open_gate.Goals as goal

pub returns-in_err-raise-clause-told : goal.returns-in_err-raise-clause-told
returns-in_err-raise-clause-told g c = λ told before all.
    rw (not_ok _ c.from_residual.ensures.0) (c.in_err-raise.ensures.told told c.args.self before (subst (λ (l : List ℕ). AreBlocks l) c.self.view_is c.self.invariant) all)

pub returns-clause-opened : goal.returns-clause-opened
returns-clause-opened g c = λ told.
    let raised = c.in_ok-raise.ensures in
    let told0 = sym raised.cause.told ∙ told in
    let fact = rw (sym c.self.view_is) at (c.requires.recorded told0) in
    (fact.0, (raised.told told0 _ fact.0 c.self.invariant fact.1).opened refl)

pub returns-clause-told : goal.returns-clause-told
returns-clause-told g c = λ told before all.
    c.in_ok-raise.ensures.told told c.args.self before (subst (λ (l : List ℕ). AreBlocks l) c.self.view_is c.self.invariant) all
