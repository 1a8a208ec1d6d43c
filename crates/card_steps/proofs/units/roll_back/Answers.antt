use Rattle.std.proofs.Common.{◌∙◌, sym}
use Rattle.small_card.specs.declared.types.Answer.TheVariants as answer
use Rattle.small_card.specs.declared.types.Command.TheVariants as command
use Rattle.home_codec.specs.FullCards.{full_card}
use Rattle.card_steps.proofs.OneStep.{former_is, stays, no_roll_reply}
use Rattle.card_steps.proofs.units.roll_back.Goals as goal

pub returns-in-None : goal.returns-in-None
returns-in-None c = record {
  turns = λ h legal is.
      let f = full_card c.args.card.now in
      let r = no_roll_reply h (former_is h f is ∙ sym c.permitted.ensures.armed ∙ sym c.copied.ensures ∙ c.in-None.is) in
      stays h command.Rollback f answer.NotPermitted legal is r.1 r.0;
}
