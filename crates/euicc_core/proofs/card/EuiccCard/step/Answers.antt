use Rattle.std.proofs.Common.{◌≡◌, ◌∙◌, sym, true}
use Rattle.std.specs.Prelude.{Some, Ok, Err}
use Rattle.home_codec.specs.FullCards.{full_card}
use Rattle.home_codec.specs.declared.card.Card.{Card}
use Rattle.euicc_core.proofs.Stepped.{same_steps, unit_steps, same_left}
use Rattle.euicc_core.proofs.card.EuiccCard.step.Goals as goal

pub returns-in-Ok-clause-chip : goal.returns-in-Ok-clause-chip
returns-in-Ok-clause-chip g c = λ told.
    let at : c.args.self.now ≡ Some (full_card c.in-Some.card) = sym (rw c.in-Some.is at c.self.view_is) in
    same_steps c.args.command.now c.args.self.now (full_card c.in-Some.card) c.in-Ok-Same.field-0 c.in-Ok-Same.answer (Ok c.in-Ok.field-0) _ _ at c.in-Ok-Same.field-0-is told (c.requires.settled told) c.in-Ok-Same.ensures.turns (c.in-Ok.ensures.told told)

pub returns-in-Err-answer_same-clause-settled : goal.returns-in-Err-answer_same-clause-settled
returns-in-Err-answer_same-clause-settled g c = λ told.
    let at : c.args.self.now ≡ Some (full_card c.in-Some.card) = sym (rw c.in-Some.is at c.self.view_is) in
    let before : (g.C.Chip.sees c.args.chip.now).told ≡ true = sym c.in-Err-answer_same.ensures.cause.told ∙ told in
    rw c.fail.ensures.card (same_left c.args.self.now (full_card c.in-Some.card) c.in-Err-answer_same.error _ _ at (c.requires.settled before) (c.in-Err-answer_same.ensures.told before))

pub returns-in-Err-answer_same-clause-chip : goal.returns-in-Err-answer_same-clause-chip
returns-in-Err-answer_same-clause-chip g c = λ told.
    let at : c.args.self.now ≡ Some (full_card c.in-Some.card) = sym (rw c.in-Some.is at c.self.view_is) in
    rw c.fail.ensures.end (same_steps {T = Unit {0}} c.args.command.now c.args.self.now (full_card c.in-Some.card) c.in-Ok-Same.field-0 c.in-Ok-Same.answer (Err c.in-Err-answer_same.error) _ _ at c.in-Ok-Same.field-0-is told (c.requires.settled told) c.in-Ok-Same.ensures.turns (c.in-Err-answer_same.ensures.told told))

pub returns-in-Ok-unit-clause-chip : goal.returns-in-Ok-unit-clause-chip
returns-in-Ok-unit-clause-chip g c = λ told.
    let at : c.args.self.now ≡ Some (full_card c.in-Some.card) = sym (rw c.in-Some.is at c.self.view_is) in
    unit_steps c.args.command.now c.args.self.now (full_card c.in-Some.card) c.in-Ok-Changed.field-0 c.in-Ok-Changed.new c.in-Ok-Changed.answer (Ok c.in-Ok-unit.held) _ _ at c.in-Ok-Changed.field-0-is told (c.requires.settled told) c.in-Ok-Changed.ensures.turns (c.in-Ok-unit.ensures.told told)

pub returns-in-Err-unit-clause-chip : goal.returns-in-Err-unit-clause-chip
returns-in-Err-unit-clause-chip g c = λ told.
    let at : c.args.self.now ≡ Some (full_card c.in-Some.card) = sym (rw c.in-Some.is at c.self.view_is) in
    rw c.fail-in-Err-unit.ensures.end (unit_steps {T = Card} c.args.command.now c.args.self.now (full_card c.in-Some.card) c.in-Ok-Changed.field-0 c.in-Ok-Changed.new c.in-Ok-Changed.answer (Err c.in-Err-unit.error) _ _ at c.in-Ok-Changed.field-0-is told (c.requires.settled told) c.in-Ok-Changed.ensures.turns (c.in-Err-unit.ensures.told told))
