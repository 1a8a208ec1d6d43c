use Rattle.small_card.specs.declared.types.Answer.TheVariants as answer
use Rattle.small_card.specs.declared.types.Command.TheVariants as command
use Rattle.home_codec.specs.FullCards.{full_card}
use Rattle.card_steps.proofs.OneStep.{stays, personal_reply}
use Rattle.card_steps.proofs.stepping.carry_out.Goals as goal

pub returns-in-Personalise : goal.returns-in-Personalise
returns-in-Personalise c = record {
  turns = λ h legal is.
      let f = full_card c.args.card.now in
      let r = personal_reply h c.in-Personalise.eid c.in-Personalise.profiles in
      rw c.in-Personalise.is (stays h (command.Personalise c.in-Personalise.eid c.in-Personalise.profiles) f answer.AlreadyPersonal legal is r.1 r.0);
}
