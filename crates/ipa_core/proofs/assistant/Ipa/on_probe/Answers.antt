use Rattle.std.proofs.Common.{◌∷◌, ◌+◌, ◌∙◌, ap, sym, subst, Bool}
use Rattle.esipa_codec.specs.Assistant.{act_of, probe}
use Rattle.ipa_core.specs.Assistants.{IsIpa}
use Rattle.ipa_core.proofs.Standing.{passed, failed, failed_third, failed_act, third_act}
use Rattle.ipa_core.proofs.assistant.Ipa.on_probe.Goals as goal

pub returns-then-passed-clause-act : goal.returns-then-passed-clause-act
unfolding act_of
returns-then-passed-clause-act c = λ es h. ap (λ (b : Bool). act_of es (probe b)) (sym c.if-passed.true)

pub returns-then-passed-clause-stands : goal.returns-then-passed-clause-stands
returns-then-passed-clause-stands c = λ es h. subst (λ (b : Bool). IsIpa (record { strikes = 0; asked = c.args.self.now.asked }) (probe b ∷ es)) (sym c.if-passed.true) (passed c.args.self.now es h)

pub returns-then-self-lt-STRIKES-clause-act : goal.returns-then-self-lt-STRIKES-clause-act
returns-then-self-lt-STRIKES-clause-act c = λ es h. failed_act c.args.self.now es h c.if-self-lt-STRIKES.true ∙ ap (λ (b : Bool). act_of es (probe b)) (sym c.if-passed.false)

pub returns-then-self-lt-STRIKES-clause-stands : goal.returns-then-self-lt-STRIKES-clause-stands
returns-then-self-lt-STRIKES-clause-stands c = λ es h.
    subst (λ (b : Bool). IsIpa (record { strikes = c.args.self.now.strikes + 1; asked = c.args.self.now.asked }) (probe b ∷ es)) (sym c.if-passed.false) (failed c.args.self.now es h c.if-self-lt-STRIKES.true)

pub returns-clause-act : goal.returns-clause-act
returns-clause-act c = λ es h. third_act c.args.self.now es h c.requires c.if-self-lt-STRIKES.false ∙ ap (λ (b : Bool). act_of es (probe b)) (sym c.if-passed.false)

pub returns-clause-stands : goal.returns-clause-stands
returns-clause-stands c = λ es h.
    subst (λ (b : Bool). IsIpa (record { strikes = 0; asked = c.args.self.now.asked }) (probe b ∷ es)) (sym c.if-passed.false) (failed_third c.args.self.now es h c.requires c.if-self-lt-STRIKES.false)
