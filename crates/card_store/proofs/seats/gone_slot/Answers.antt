use Rattle.std.proofs.Common.{◌∙◌, ◌+◌, ap, drop, sym, arith}
use Rattle.std.specs.Prelude.{◌-◌, None}
use Rattle.std.specs.List.{list_any}
use Rattle.std.proofs.lemmas.List.{take_all, length-drop}
use Rattle.std.proofs.lemmas.List.Quantifiers.{position-Some}
use Rattle.card_store.specs.Seats.{is_gone}
use Rattle.card_store.proofs.Gone.{only_gone, more_gone, none_gone}
use Rattle.card_store.proofs.seats.gone_slot.Goals as goal

pub returns-then-any_gone-clause-none : goal.returns-then-any_gone-clause-none
returns-then-any_gone-clause-none c = λ none slot only.
    let at = c.in-Some.slot in
    let rest = take_all (8 - (at + 1)) (drop (at + 1) c.args.numbers.now) (omega (arith, length-drop (at + 1) c.args.numbers.now, c.told-numbers)) in
    more_gone c.args.pending.now c.args.numbers.now c.in-Some.slot slot (sym c.in-Some.ensures) (ap (list_any (is_gone c.args.pending.now)) (sym rest) ∙ sym c.any_gone.ensures ∙ c.if-any_gone.true) only

pub returns-else-any_gone-clause-some : goal.returns-else-any_gone-clause-some
returns-else-any_gone-clause-some c =
    let at = c.in-Some.slot in
    let rest = take_all (8 - (at + 1)) (drop (at + 1) c.args.numbers.now) (omega (arith, length-drop (at + 1) c.args.numbers.now, c.told-numbers)) in
    let found = position-Some (is_gone c.args.pending.now) c.args.numbers.now c.in-Some.slot None (sym c.in-Some.ensures) in
    (omega (arith, found.0, c.told-numbers), only_gone c.args.pending.now c.args.numbers.now c.in-Some.slot (sym c.in-Some.ensures) (ap (list_any (is_gone c.args.pending.now)) (sym rest) ∙ sym c.any_gone.ensures ∙ c.if-any_gone.false))

pub returns-in-None-clause-none : goal.returns-in-None-clause-none
returns-in-None-clause-none c = λ none slot only. none_gone c.args.pending.now c.args.numbers.now slot (sym c.in-None.ensures) only
