use Rattle.std.proofs.Common.{◌∙◌, ap, sym, List, map}
use Rattle.small_card.specs.Cards.{SmallCard}
use Rattle.small_card.specs.EimOperations.{line_of}
use Rattle.small_card.specs.declared.types.Answer.TheVariants as answer
use Rattle.small_card.specs.declared.types.Command.TheVariants as command
use Rattle.small_card.specs.declared.types.EimLine.{EimLine}
use Rattle.home_codec.specs.FullCards.{full_card}
use Rattle.card_steps.proofs.OneStep.{card_is, stays, eims_reply}
use Rattle.card_steps.proofs.listing.list_eims.Goals as goal

pub returns : goal.returns
returns c = record {
  turns = λ h legal is.
      let f = full_card c.args.card.now in
      let r = eims_reply h in
      let same = ap (λ (x : SmallCard). map line_of x.eims.entries) (card_is h f is) in
      stays h command.Eims f (answer.Eims c.in_ok-rows.rows) legal is r.1 (ap (λ (rows : List EimLine). answer.Eims rows) (c.in_ok-rows.ensures.lines ∙ sym same) ∙ r.0);
}
