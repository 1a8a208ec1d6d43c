use Rattle.std.proofs.Common.{◌≡◌, ◌∙◌, ap, subst, [], sym}
use Rattle.card_store.specs.Staging.{Plan, IsPlan}
use Rattle.card_store.proofs.Cards.{committed, unwritten}
use Rattle.card_store.proofs.staging.Staged.commit.Goals as goal

pub returns-then-is_empty-clause-told : goal.returns-then-is_empty-clause-told
returns-then-is_empty-clause-told g c = λ told old settled.
    let is = c.self.view_is in
    let plan = subst (λ (p : Plan). IsPlan p) is c.self.invariant in
    let none : c.self.inside.blocks ≡ [] = c.is_empty.ensures.0 c.if-is_empty.true in
    unwritten old c.args.self _ told (ap (λ (p : Plan). p.blocks) (sym is) ∙ none) plan settled (c.requires.staged told)

pub returns-in-Ok-clause-told : goal.returns-in-Ok-clause-told
returns-in-Ok-clause-told g c = λ told old settled.
    let is = c.self.view_is in
    let plan = subst (λ (p : Plan). IsPlan p) is c.self.invariant in
    committed old c.args.self _ _ _ _ _ (ap (λ (p : Plan). p.blocks) is) (c.as_slice.ensures ∙ ap (λ (p : Plan). p.octets) is) told plan settled (c.requires.staged told) (c.in-Ok.ensures.told told)

pub returns-in-Err-clause-told : goal.returns-in-Err-clause-told
returns-in-Err-clause-told g c = λ told old settled.
    let is = c.self.view_is in
    let plan = subst (λ (p : Plan). IsPlan p) is c.self.invariant in
    committed old c.args.self _ _ _ _ _ (ap (λ (p : Plan). p.blocks) is) (c.as_slice.ensures ∙ ap (λ (p : Plan). p.octets) is) told plan settled (c.requires.staged told) (c.in-Err.ensures.told told)
