use Rattle.std.proofs.Common.{◌∷◌, ap, sym, subst, Some}
use Rattle.esipa_codec.specs.Assistant.{act_of, message}
use Rattle.esipa_codec.specs.declared.messages.ToIpa.{ToIpa}
use Rattle.ipa_core.specs.Assistants.{IsIpa}
use Rattle.ipa_core.proofs.Standing.{handed, told_nothing, acknowledged}
use Rattle.ipa_core.proofs.assistant.Ipa.on_message.Goals as goal

pub returns-in-Package-clause-act : goal.returns-in-Package-clause-act
unfolding act_of
returns-in-Package-clause-act c = λ es. ap (λ (m : ToIpa). act_of es (message c.args.from m c.args.good)) (sym c.in-Package.is)

pub returns-in-Package-clause-stands : goal.returns-in-Package-clause-stands
returns-in-Package-clause-stands c = λ es h.
    subst (λ (m : ToIpa). IsIpa (record { strikes = c.args.self.now.strikes; asked = Some c.args.from }) (message c.args.from m c.args.good ∷ es)) (sym c.in-Package.is)
    (handed c.args.self.now c.args.from c.in-Package.bytes c.args.good es h)

pub returns-in-Nothing-clause-act : goal.returns-in-Nothing-clause-act
unfolding act_of
returns-in-Nothing-clause-act c = λ es. ap (λ (m : ToIpa). act_of es (message c.args.from m c.args.good)) (sym c.in-Nothing.is)

pub returns-in-Nothing-clause-stands : goal.returns-in-Nothing-clause-stands
returns-in-Nothing-clause-stands c = λ es h.
    subst (λ (m : ToIpa). IsIpa c.args.self.now (message c.args.from m c.args.good ∷ es)) (sym c.in-Nothing.is) (told_nothing c.args.self.now c.args.from c.args.good es h)

pub returns-in-Ack-clause-act : goal.returns-in-Ack-clause-act
unfolding act_of
returns-in-Ack-clause-act c = λ es. ap (λ (m : ToIpa). act_of es (message c.args.from m c.args.good)) (sym c.in-Ack.is)

pub returns-in-Ack-clause-stands : goal.returns-in-Ack-clause-stands
returns-in-Ack-clause-stands c = λ es h.
    subst (λ (m : ToIpa). IsIpa c.args.self.now (message c.args.from m c.args.good ∷ es)) (sym c.in-Ack.is) (acknowledged c.args.self.now c.args.from c.in-Ack.seq c.args.good es h)
