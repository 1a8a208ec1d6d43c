use Rattle.std.proofs.Common.{◌∙◌, ap, sym}
use Rattle.std.proofs.lemmas.Bool.{eq-eqb}
use Rattle.small_card.specs.Ranges.{greatest_counter}
use Rattle.eim_queue.specs.Queues.{Queue}
use Rattle.eim_queue.proofs.Standing.{spent_end, spent_stands, unbound_end, unbound_stands}
use Rattle.eim_queue.proofs.queue.Eim.order.Goals as goal

pub returns-then-bound-eq-GREATEST_COUNTER-clause-end : goal.returns-then-bound-eq-GREATEST_COUNTER-clause-end
returns-then-bound-eq-GREATEST_COUNTER-clause-end c = λ e h.
    spent_end c.args.self.now e c.in-Some.bound h (ap (λ (q : Queue). q.bound) (sym c.self.view_is) ∙ c.in-Some.is) (eq-eqb c.in-Some.bound.last greatest_counter c.if-bound-eq-GREATEST_COUNTER.true)

pub returns-then-bound-eq-GREATEST_COUNTER-clause-stands : goal.returns-then-bound-eq-GREATEST_COUNTER-clause-stands
returns-then-bound-eq-GREATEST_COUNTER-clause-stands c = λ e h.
    spent_stands c.args.self.now e c.in-Some.bound c.args.body h (ap (λ (q : Queue). q.bound) (sym c.self.view_is) ∙ c.in-Some.is) (eq-eqb c.in-Some.bound.last greatest_counter c.if-bound-eq-GREATEST_COUNTER.true)

pub returns-in-None-clause-end : goal.returns-in-None-clause-end
returns-in-None-clause-end c = λ e h. unbound_end c.args.self.now e h (ap (λ (q : Queue). q.bound) (sym c.self.view_is) ∙ c.in-None.is)

pub returns-in-None-clause-stands : goal.returns-in-None-clause-stands
returns-in-None-clause-stands c = λ e h. unbound_stands c.args.self.now e c.args.body h (ap (λ (q : Queue). q.bound) (sym c.self.view_is) ∙ c.in-None.is)
