use Rattle.small_card.specs.Ranges.{IsCommand}
use Rattle.small_card.specs.declared.types.Command.TheVariants as command
use Rattle.esipa_codec.specs.Assistant.{push}
use Rattle.iot_schedule.specs.declared.types.Line.TheVariants as line
use Rattle.iot_world.proofs.Carrying.{carried_err, carried_silent, push_asked, push_carried, push_prints, stands_heard}
use Rattle.iot_world.proofs.world.World.push.Goals as goal

pub ask-requires-clause-range : goal.ask-requires-clause-range
unfolding IsCommand
ask-requires-clause-range g c = tt

pub returns-in-Ok-Answered-clause-acts : goal.returns-in-Ok-Answered-clause-acts
returns-in-Ok-Answered-clause-acts g c = λ first w stands.
    let heard = stands_heard first w push _ _ _ stands (c.push-act.ensures.stands w stands.network) in
    push_asked first w c.in-Ok-Answered.first c.in-Ok-Answered.sent c.pushed.result _ _ _ _ _ _ (rw c.in-Ok-Answered.field-0-is at c.in-Ok-Answered.ensures.asked first _ heard) c.pushed.ensures

pub returns-in-Ok-Silent-clause-acts : goal.returns-in-Ok-Silent-clause-acts
returns-in-Ok-Silent-clause-acts g c = λ first w stands.
    let heard = stands_heard first w push _ _ _ stands (c.push-act.ensures.stands w stands.network) in
    carried_silent first w line.Push push command.Results _ _ _ _ _ _ (push_carried w) (push_prints w) (rw c.in-Ok-Silent.field-0-is at c.in-Ok-Silent.ensures.asked first _ heard)

pub returns-clause-acts : goal.returns-clause-acts
returns-clause-acts g c = λ first w stands.
    let heard = stands_heard first w push _ _ _ stands (c.push-act.ensures.stands w stands.network) in
    carried_err first w line.Push push command.Results c.in-Err.halt _ _ _ _ _ _ (push_carried w) (c.in-Err.ensures.asked first _ heard)
