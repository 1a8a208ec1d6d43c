use Rattle.std.proofs.Common.{◌∙◌, ap, sym, List}
use Rattle.small_card.specs.Cards.{SmallCard}
use Rattle.small_card.specs.declared.types.Answer.TheVariants as answer
use Rattle.small_card.specs.declared.types.Command.TheVariants as command
use Rattle.small_card.specs.declared.types.PackageResult.{PackageResult}
use Rattle.home_codec.specs.FullCards.{full_card}
use Rattle.card_steps.proofs.OneStep.{card_is, stays, results_reply}
use Rattle.card_steps.proofs.listing.list_results.Goals as goal

pub returns : goal.returns
returns c = record {
  turns = λ h legal is.
      let f = full_card c.args.card.now in
      let r = results_reply h in
      let same = ap (λ (x : SmallCard). x.results.pending) (card_is h f is) in
      stays h command.Results f (answer.Results c.in_ok-rows.rows) legal is r.1 (ap (λ (rows : List PackageResult). answer.Results rows) (c.in_ok-rows.ensures ∙ sym same) ∙ r.0);
}
