use Rattle.std.proofs.Common.{◌∷◌, ◌∙◌, ap, sym, subst, None}
use Rattle.small_card.specs.declared.types.Answer.{Answer}
use Rattle.esipa_codec.specs.Assistant.{act_of, answered, refusal_to}
use Rattle.ipa_core.specs.Assistants.{IsIpa}
use Rattle.ipa_core.proofs.Standing.{taken, refused, listed, other_act, other_stands, ok_then, on_ok}
use Rattle.ipa_core.proofs.assistant.Ipa.on_answer.Goals as goal

pub returns-in-Loaded-clause-act : goal.returns-in-Loaded-clause-act
unfolding act_of
returns-in-Loaded-clause-act c = λ es h. ap (λ (a : Answer). act_of es (answered a)) (sym c.in-Loaded.is)

pub returns-in-Loaded-clause-stands : goal.returns-in-Loaded-clause-stands
returns-in-Loaded-clause-stands c = λ es h.
    subst (λ (a : Answer). IsIpa c.new.result (answered a ∷ es)) (sym c.in-Loaded.is) (taken c.new.result c.in-Loaded.field-0 es c.new.ensures)

pub returns-in-LoadRefused-clause-act : goal.returns-in-LoadRefused-clause-act
unfolding act_of
returns-in-LoadRefused-clause-act c = λ es h.
    c.in_ok-act-in-LoadRefused.ensures ∙ ap (λ o. refusal_to o c.in-LoadRefused.refused) h.asked_is ∙ ap (λ (a : Answer). act_of es (answered a)) (sym c.in-LoadRefused.is)

pub returns-in-LoadRefused-clause-stands : goal.returns-in-LoadRefused-clause-stands
returns-in-LoadRefused-clause-stands c = λ es h.
    subst (λ (a : Answer). IsIpa (record { strikes = c.args.self.now.strikes; asked = None }) (answered a ∷ es)) (sym c.in-LoadRefused.is)
    (refused c.args.self.now c.in-LoadRefused.refused es h)

pub returns-in-Results-clause-act : goal.returns-in-Results-clause-act
unfolding act_of
returns-in-Results-clause-act c = λ es h.
    ok_then c.pending.result _ _ (ap (λ (a : Answer). act_of es (answered a)) (sym c.in-Results.is)) c.pending.ensures

pub returns-in-Results-clause-stands : goal.returns-in-Results-clause-stands
returns-in-Results-clause-stands c = λ es h.
    on_ok c.pending.result _ (subst (λ (a : Answer). IsIpa c.args.self.now (answered a ∷ es)) (sym c.in-Results.is) (listed c.args.self.now c.in-Results.results es h))

pub returns : goal.returns
returns c = record {
  act = λ es h. other_act c.args.answer (c.in_default.not-Loaded, c.in_default.not-LoadRefused, c.in_default.not-Results) es;
  stands = λ es h. other_stands c.args.self.now c.args.answer (c.in_default.not-Loaded, c.in_default.not-LoadRefused, c.in_default.not-Results) es h;
  err = tt;
}
