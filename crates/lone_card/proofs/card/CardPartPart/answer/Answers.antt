use Rattle.std.proofs.Common.{◌≡◌, ◌∙◌, Some, None, Ok, refl, arith}
use Rattle.small_card.specs.Ranges.{IsAnswer}
use Rattle.small_card.specs.declared.types.Answer.TheVariants.{Malformed}
use Rattle.es10_codec.specs.Reading.{command_at}
use Rattle.run_loop.specs.declared.halt.PartStop.TheVariants as stop
use Rattle.lone_card.specs.Answering.{of_step}
use Rattle.lone_card.specs.Benches.{IsReady}
use Rattle.lone_card.proofs.Chips.{idle}
use Rattle.lone_card.proofs.Replying.{step_replied, step_cause, step_range, step_works, not_a_command, none_works}
use Rattle.lone_card.proofs.Answering.{put_answers, put_ready, stopped}
use Rattle.lone_card.proofs.card.CardPartPart.answer.Goals as goal

pub put-requires : goal.put-requires
unfolding IsAnswer
put-requires g c = tt

pub returns-in-Ok-clause-answers : goal.returns-in-Ok-clause-answers
returns-in-Ok-clause-answers g c =
    let ready : IsReady (Some c.in-Some.card) (g.C.Chip.sees c.args.outside.now) = rw c.in-Some.is at c.requires in
    put_answers (λ x. x.0.card) (λ x. g.C.Chip.sees x.1) _ _ c.args.octets.now _ _ (of_step c.step.result) c.put_end.result
    (λ o s. step_replied c.args.octets.now c.in-Ok.command c.step.result c.in-Some.card c.step.new.self c.in-Ok.ensures.exact c.step.ensures.steps o (rw c.in-Some.is at s))
    (step_cause c.step.result c.in-Some.card _ _ ready c.step.ensures.dark.0 c.step.ensures.cause)
    (λ told o s. step_works c.args.octets.now c.in-Ok.command c.step.result c.in-Some.card _ _ c.in-Ok.ensures.exact (g.met.C.Chip.sound c.args.outside.now told) (g.met.C.Chip.sound c.step.new.chip (c.step.ensures.cause.told ∙ told)) told (c.step.ensures.chip told) o (rw c.in-Some.is at s))
    (step_range c.step.result (c.step.ensures.range c.in-Ok.ensures.found.0)) c.put_end.ensures

pub returns-in-Ok-clause-ready : goal.returns-in-Ok-clause-ready
returns-in-Ok-clause-ready g c =
    let ready : IsReady (Some c.in-Some.card) (g.C.Chip.sees c.args.outside.now) = rw c.in-Some.is at c.requires in
    put_ready (Some c.in-Some.card) (Some c.step.new.self) _ _ c.args.octets.now _ _ (of_step c.step.result) c.put_end.result ready
    (step_replied c.args.octets.now c.in-Ok.command c.step.result c.in-Some.card c.step.new.self c.in-Ok.ensures.exact c.step.ensures.steps) c.step.ensures.settled c.put_end.ensures

pub returns-in-Err-Malformed-clause-answers : goal.returns-in-Err-Malformed-clause-answers
unfolding IsAnswer
returns-in-Err-Malformed-clause-answers g c =
    let none : command_at c.args.octets.now ≡ None = rw c.in-Err-Malformed.field-0-is at c.in-Err-Malformed.ensures.exact in
    put_answers (λ x. x.0.card) (λ x. g.C.Chip.sees x.1) _ _ c.args.octets.now _ _ (Ok Malformed) c.put.result
    (λ o s. not_a_command c.args.octets.now c.in-Some.card none o (rw c.in-Some.is at s))
    (record { told = refl; monotone = omega arith; cause = λ is. absurd cc })
    (λ told o s. none_works c.args.octets.now c.in-Some.card _ _ Malformed none (λ h. idle _ h told) o (rw c.in-Some.is at s))
    tt c.put.ensures

pub returns-in-Err-NoMemory-clause-answers : goal.returns-in-Err-NoMemory-clause-answers
returns-in-Err-NoMemory-clause-answers g c = λ first fs text led.
    stopped first.0.card c.args.self.now.card c.args.self.now.card _ _ _ c.args.octets.now stop.NoMemory (λ o s. tt)
    (record { told = refl; monotone = omega arith; cause = λ is. absurd cc }) (λ told o s. idle _ o told) fs text led
