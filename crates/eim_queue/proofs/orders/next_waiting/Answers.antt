use Rattle.std.proofs.Common.{◌∙◌, ap, sym, List}
use Rattle.std.specs.Prelude.{position}
use Rattle.std.proofs.lemmas.List.{take_rest}
use Rattle.eim_queue.specs.declared.orders.Order.{Order}
use Rattle.eim_queue.proofs.Following.{next_there, next_none}
use Rattle.eim_queue.proofs.orders.next_waiting.Goals as goal

pub returns-in-Some : goal.returns-in-Some
returns-in-Some c = next_there (λ (o : Order). o.waits) c.args.from c.in-Some.further c.args.orders.now c.requires.inside c.requires.passed (ap (λ (os : List Order). position (λ (o : Order). o.waits) os) (sym (take_rest c.args.orders.now c.args.from)) ∙ sym c.first_waiting.ensures ∙ c.in-Some.is)

pub returns-in-None : goal.returns-in-None
returns-in-None c = next_none (λ (o : Order). o.waits) c.args.from c.args.orders.now c.requires.inside c.requires.passed (ap (λ (os : List Order). position (λ (o : Order). o.waits) os) (sym (take_rest c.args.orders.now c.args.from)) ∙ sym c.first_waiting.ensures ∙ c.in-None.is)
