use Rattle.std.proofs.Common.{◌∙◌, ap, sym, arith, Some}
use Rattle.std.specs.Prelude.{find}
use Rattle.small_card.specs.Cards.{EimList}
use Rattle.small_card.specs.EimOperations.{is_eim}
use Rattle.small_card.specs.declared.types.Refused.{Refused}
use Rattle.counter_check.proofs.Passing.{no_entry, not_both, from_entry}
use Rattle.counter_check.proofs.Deciding.{unknown_eim, known_eim, bad_verdict, good_verdict}
use Rattle.counter_check.proofs.checking.refusal.Goals as goal

pub returns-in_default-clause-first : goal.returns-in_default-clause-first
returns-in_default-clause-first c = λ h shows.
    let none = ap (λ (ms : EimList). find (is_eim c.args.load.now.eim) ms.entries) shows.eims_are ∙ sym c.in_default.ensures.found in
    unknown_eim h c.args.good c.args.load.now none ∙ ap (λ (r : Refused). Some r) (sym c.refused.ensures)

pub returns-then-not-good-clause-first : goal.returns-then-not-good-clause-first
returns-then-not-good-clause-first c = λ h shows.
    let some = ap (λ (ms : EimList). find (is_eim c.args.load.now.eim) ms.entries) shows.eims_are ∙ sym c.in-Some.ensures.found in
    known_eim h c.args.good c.args.load.now c.in-Some.entry some ∙ bad_verdict c.args.good _ (grind arith) ∙ ap (λ (r : Refused). Some r) (sym c.refused-then-not-good.ensures)

pub returns-clause-first : goal.returns-clause-first
returns-clause-first c = λ h shows.
    let some = ap (λ (ms : EimList). find (is_eim c.args.load.now.eim) ms.entries) shows.eims_are ∙ sym c.in-Some.ensures.found in
    known_eim h c.args.good c.args.load.now c.in-Some.entry some ∙ good_verdict c.args.good _ (grind arith) ∙ c.entry_refusal.ensures.first h shows.legal shows.eid_is shows.results_are some

pub returns-in_default-clause-passes : goal.returns-in_default-clause-passes
returns-in_default-clause-passes c = no_entry (record { good = c.args.good; load = c.args.load.now }) c.args.eid.now c.args.eims.now c.args.store.now (sym c.in_default.ensures.found)

pub returns-then-not-good-clause-passes : goal.returns-then-not-good-clause-passes
returns-then-not-good-clause-passes c = λ p. not_both c.args.good p.verdict (grind arith)

pub returns-clause-passes : goal.returns-clause-passes
returns-clause-passes c =
    from_entry c.entry_refusal.result (record { good = c.args.good; load = c.args.load.now }) c.args.eid.now c.args.eims.now c.args.store.now c.in-Some.entry (sym c.in-Some.ensures.found) (grind arith) c.entry_refusal.ensures.passes
