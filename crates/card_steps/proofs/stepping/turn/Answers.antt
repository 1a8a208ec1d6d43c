use Rattle.std.proofs.Common.{[]}
use Rattle.small_card.specs.Histories.{History}
use Rattle.home_codec.specs.FullCards.{full_card}
use Rattle.small_card.proofs.Validity.{alone_legal}
use Rattle.card_steps.proofs.OneStep.{alone_full, turned_valid, turned_range}
use Rattle.card_steps.proofs.stepping.turn.Goals as goal

pub returns-clause-valid : goal.returns-clause-valid
returns-clause-valid c =
    let f = full_card c.args.card.now in
    let h : History = record { start = f; units = [] } in
    turned_valid h c.args.command.now f c.in_ok-end.end c.requires.valid (c.in_ok-end.ensures.turns h (alone_legal f c.requires.valid) (alone_full f))

pub returns-clause-range : goal.returns-clause-range
returns-clause-range c = λ fits.
    let f = full_card c.args.card.now in
    let h : History = record { start = f; units = [] } in
    turned_range h c.args.command.now f c.in_ok-end.end (alone_legal f c.requires.valid) fits (c.in_ok-end.ensures.turns h (alone_legal f c.requires.valid) (alone_full f))
