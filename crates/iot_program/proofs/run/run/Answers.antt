use Rattle.std.proofs.Common.{◌≡◌, ◌∙◌, Some, ap, sym, subst}
use Rattle.std.proofs.lemmas.Option.{same_Some}
use Rattle.iot_program.specs.declared.words.Form.{Form}
use Rattle.iot_program.specs.Ends.{HandledBy, ReadsNothing, StepsWorld, StopsBy}
use Rattle.iot_program.proofs.Serving.{does_words}
use Rattle.iot_program.proofs.run.run.Goals as goal

pub returns-in-Some-clause-does : goal.returns-in-Some-clause-does
returns-in-Some-clause-does g c = does_words _ c.in-Some.form c.run_form.result _ _ _ _ _ _ (sym c.form_of_words.ensures.form ∙ c.in-Some.is) c.run_form.ensures.does

pub returns-in-Some-clause-complete : goal.returns-in-Some-clause-complete
returns-in-Some-clause-complete g c = λ form input fs words told is handled no_read no_write calm.
    let same : form ≡ c.in-Some.form = same_Some _ _ (sym words ∙ sym c.form_of_words.ensures.form ∙ c.in-Some.is) in
    c.run_form.ensures.complete input fs told is (subst (λ (f : Form). HandledBy f (g.B.Chip.sees c.args.bench.now) fs) same handled) no_read no_write calm

pub returns-in-Some-clause-stops : goal.returns-in-Some-clause-stops
returns-in-Some-clause-stops g c = λ form input fs tail words told is handled no_read no_write calm.
    let same : form ≡ c.in-Some.form = same_Some _ _ (sym words ∙ sym c.form_of_words.ensures.form ∙ c.in-Some.is) in
    subst (λ (f : Form). StopsBy f (g.B.Chip.sees c.args.bench.now) fs tail c.run_form.result) (sym same) (c.run_form.ensures.stops input fs tail told is (subst (λ (f : Form). HandledBy f (g.B.Chip.sees c.args.bench.now) fs) same handled) no_read no_write calm)

pub returns-in-Some-clause-checks : goal.returns-in-Some-clause-checks
returns-in-Some-clause-checks g c = λ input words. c.run_form.ensures.checks input (same_Some _ _ (sym (sym words ∙ sym c.form_of_words.ensures.form ∙ c.in-Some.is)))

pub returns-in-Some-clause-unread : goal.returns-in-Some-clause-unread
returns-in-Some-clause-unread g c = λ nothing. c.run_form.ensures.unread (subst ReadsNothing (sym c.form_of_words.ensures.form ∙ c.in-Some.is) nothing)

pub returns-in-Some-clause-faults : goal.returns-in-Some-clause-faults
returns-in-Some-clause-faults g c = λ words. c.run_form.ensures.faults (same_Some _ _ (sym (sym words ∙ sym c.form_of_words.ensures.form ∙ c.in-Some.is)))

pub returns-in-Some-clause-untouched_bench : goal.returns-in-Some-clause-untouched_bench
returns-in-Some-clause-untouched_bench g c = λ no_card no_world.
    c.run_form.ensures.untouched_bench (λ card. no_card (sym c.form_of_words.ensures.form ∙ c.in-Some.is ∙ ap (λ (f : Form). Some f) card)) (λ steps. no_world (subst StepsWorld (sym (sym c.form_of_words.ensures.form ∙ c.in-Some.is)) steps))

pub returns-in-Some-clause-untouched_modems : goal.returns-in-Some-clause-untouched_modems
returns-in-Some-clause-untouched_modems g c = λ no_world.
    c.run_form.ensures.untouched_modems (λ steps. no_world (subst StepsWorld (sym (sym c.form_of_words.ensures.form ∙ c.in-Some.is)) steps))

pub returns-in-Some-clause-broke : goal.returns-in-Some-clause-broke
returns-in-Some-clause-broke g c = λ steps. c.run_form.ensures.broke (subst StepsWorld (sym c.form_of_words.ensures.form ∙ c.in-Some.is) steps)

pub returns-in-Some-clause-replays : goal.returns-in-Some-clause-replays
returns-in-Some-clause-replays g c = λ input words. c.run_form.ensures.replays input (same_Some _ _ (sym (sym words ∙ sym c.form_of_words.ensures.form ∙ c.in-Some.is)))
