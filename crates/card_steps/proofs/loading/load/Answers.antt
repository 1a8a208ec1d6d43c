use Rattle.std.proofs.Common.{refl}
use Rattle.small_card.specs.declared.types.Answer.TheVariants as answer
use Rattle.small_card.specs.declared.types.Command.TheVariants as command
use Rattle.home_codec.specs.FullCards.{full_card}
use Rattle.card_steps.proofs.OneStep.{stays, refused_reply}
use Rattle.card_steps.proofs.loading.load.Goals as goal

pub returns-in-Err-Refused : goal.returns-in-Err-Refused
returns-in-Err-Refused c = record {
  turns = λ h legal is.
      let f = full_card c.args.card.now in
      let why = c.in-Err-Refused.why in
      let r = refused_reply h c.args.good c.args.bytes.now why (c.in-Err-Refused.ensures.refused why (rw c.in-Err-Refused.field-0-is refl) h) in
      rw c.in-Err-Refused.field-0-is (stays h (command.Load c.args.good c.args.bytes.now) f (answer.LoadRefused why) legal is r.1 r.0);
}
