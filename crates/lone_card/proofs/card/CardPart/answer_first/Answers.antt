use Rattle.std.proofs.Common.{Ok}
use Rattle.small_card.specs.Ranges.{IsAnswer}
use Rattle.small_card.specs.declared.types.Answer.TheVariants.{Personalised}
use Rattle.run_loop.specs.declared.halt.PartStop.TheVariants.{ChipFault}
use Rattle.lone_card.proofs.Answering.{put_answers, stopped, begun_ready, cause_of_none, cause_of_reply, reply_begun, not_begun, begun_works, not_begun_works}
use Rattle.lone_card.proofs.card.CardPart.answer_first.Goals as goal

pub put-requires : goal.put-requires
unfolding IsAnswer
put-requires g c = tt

pub returns-in-Ok-clause-answers : goal.returns-in-Ok-clause-answers
unfolding IsAnswer
returns-in-Ok-clause-answers g c =
    put_answers (λ x. x.0.card) (λ x. g.C.Chip.sees x.1) _ _ c.args.octets.now _ _ (Ok Personalised) c.put.result
    (λ o s. reply_begun c.in-Ok.begun o c.args.octets.now (rw c.requires at s) c.in-Ok.ensures.begun)
    (cause_of_reply ChipFault _ _ c.in-Ok.begun Personalised c.in-Ok.ensures.cause)
    (λ told o s. begun_works c.in-Ok.begun o c.args.octets.now Personalised _ _ (rw c.requires at s) (c.in-Ok.ensures.chip told))
    tt c.put.ensures

pub returns-in-Ok-clause-ready : goal.returns-in-Ok-clause-ready
returns-in-Ok-clause-ready g c = begun_ready c.put.result c.in-Ok.begun _ _ c.in-Ok.ensures.begun c.in-Ok.ensures.settled

pub returns-in-Err-clause-answers : goal.returns-in-Err-clause-answers
returns-in-Err-clause-answers g c = λ first fs text led.
    stopped first.0.card c.args.self.now.card c.args.self.now.card _ _ _ c.args.octets.now c.in-Err.stop
    (λ o s. not_begun o c.args.octets.now c.in-Err.stop c.args.self.now.card (rw c.requires at s) c.in-Err.ensures.begun)
    (cause_of_none ChipFault c.in-Err.stop _ _ c.in-Err.ensures.cause)
    (λ told o s. not_begun_works o c.args.octets.now c.in-Err.stop _ _ (rw c.requires at s) (c.in-Err.ensures.chip told))
    fs text led
