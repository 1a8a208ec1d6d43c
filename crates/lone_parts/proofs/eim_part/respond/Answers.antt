use Rattle.std.proofs.Common.{◌∙◌, ap, sym, subst}
use Rattle.std.specs.Prelude.{IfOk}
use Rattle.part_records.specs.Ranges.{IsEimInput, IsEimOutput}
use Rattle.part_records.specs.declared.records.EimInput.{EimInput}
use Rattle.lone_parts.specs.Eims.{Gave, of_bind, of_skip}
use Rattle.lone_parts.proofs.EimSteps.{gave_bind, gave_skip, bound_fits, order_all, message_all, sent_all}
use Rattle.lone_parts.proofs.eim_part.respond.Goals as goal

pub bind-requires-clause-association : goal.bind-requires-clause-association
unfolding IsEimInput
bind-requires-clause-association c = (subst IsEimInput c.in-Bind.is c.requires).association

pub bind-requires-clause-last : goal.bind-requires-clause-last
unfolding IsEimInput
bind-requires-clause-last c = (subst IsEimInput c.in-Bind.is c.requires).last

pub order-requires : goal.order-requires
unfolding IsEimInput
order-requires c = subst IsEimInput c.in-Order.is c.requires

pub returns-in-Bind-clause-gave : goal.returns-in-Bind-clause-gave
returns-in-Bind-clause-gave c = λ e h.
    subst (λ (x : EimInput). Gave e x c.bind.new.self c.bound.result) (sym c.in-Bind.is)
    (gave_bind e c.in-Bind.association c.in-Bind.last c.bind.new.self c.bound.result (c.bound.ensures ∙ ap of_bind (c.bind.ensures.end e h)) (c.bind.ensures.stands e h))

pub returns-in-Bind-clause-range : goal.returns-in-Bind-clause-range
returns-in-Bind-clause-range c = subst IsEimOutput (sym c.bound.ensures) (bound_fits c.bind.result)

pub returns-in-Order-clause-gave : goal.returns-in-Order-clause-gave
returns-in-Order-clause-gave c = λ e h.
    subst (λ (x : EimInput). IfOk c.ordered.result (λ o. Gave e x c.order.new.self o)) (sym c.in-Order.is)
    (order_all e c.in-Order.body c.order.new.self c.order.result c.ordered.result c.ordered.ensures.given (c.order.ensures.end e h) (c.order.ensures.stands e h))

pub returns-in-Skip-clause-gave : goal.returns-in-Skip-clause-gave
returns-in-Skip-clause-gave c = λ e h.
    subst (λ (x : EimInput). Gave e x c.skip.new.self c.skipped.result) (sym c.in-Skip.is)
    (gave_skip e c.skip.new.self c.skipped.result (c.skipped.ensures.given ∙ ap of_skip (c.skip.ensures.end e h)) (c.skip.ensures.stands e h))

pub returns-in-Message-clause-gave : goal.returns-in-Message-clause-gave
returns-in-Message-clause-gave c = λ e h.
    subst (λ (x : EimInput). IfOk c.answered.result (λ o. Gave e x c.on_message.new.self o)) (sym c.in-Message.is)
    (message_all e c.in-Message.message c.on_message.new.self c.on_message.result c.answered.result c.answered.ensures (c.on_message.ensures.end e h) (c.on_message.ensures.stands e h))

pub returns-in-Message-clause-range : goal.returns-in-Message-clause-range
unfolding IsEimInput
returns-in-Message-clause-range c = sent_all c.on_message.result c.answered.result c.answered.ensures (c.on_message.ensures.range (subst IsEimInput c.in-Message.is c.requires))
