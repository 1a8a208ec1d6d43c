use Rattle.std.proofs.Common.{sym, subst}
use Rattle.std.specs.Prelude.{IfOk}
use Rattle.part_records.specs.declared.records.IpaInput.{IpaInput}
use Rattle.lone_parts.specs.Ipas.{Did, event_of}
use Rattle.lone_parts.proofs.IpaSteps.{some_few, did_message, did_probe, did_restart, did_push, did_answered, did_poll}
use Rattle.lone_parts.proofs.ipa_part.respond.Goals as goal

pub on_probe-requires : goal.on_probe-requires
on_probe-requires c = some_few c.args.ipa.now c.requires

pub returns-in-Message-clause-did : goal.returns-in-Message-clause-did
returns-in-Message-clause-did c = λ events h.
    subst (λ (x : IpaInput). Did events (event_of c.args.eid x) c.on_message.new.self c.on_message.result) (sym c.in-Message.is)
    (did_message events c.args.eid c.in-Message.from c.in-Message.good c.in-Message.message c.on_message.new.self c.on_message.result (c.on_message.ensures.act events) (c.on_message.ensures.stands events h))

pub returns-in-Probe-clause-did : goal.returns-in-Probe-clause-did
returns-in-Probe-clause-did c = λ events h.
    subst (λ (x : IpaInput). Did events (event_of c.args.eid x) c.on_probe.new.self c.on_probe.result) (sym c.in-Probe.is)
    (did_probe events c.args.eid c.in-Probe.passed c.on_probe.new.self c.on_probe.result (c.on_probe.ensures.act events h) (c.on_probe.ensures.stands events h))

pub returns-in-Restart-clause-did : goal.returns-in-Restart-clause-did
returns-in-Restart-clause-did c = λ events h.
    subst (λ (x : IpaInput). Did events (event_of c.args.eid x) c.restarted.new.ipa c.restarted.result) (sym c.in-Restart.is)
    (did_restart events c.args.eid c.restarted.new.ipa c.restarted.result (c.restarted.ensures events h))

pub returns-in-Push-clause-did : goal.returns-in-Push-clause-did
returns-in-Push-clause-did c = λ events h.
    subst (λ (x : IpaInput). Did events (event_of c.args.eid x) c.args.ipa.now c.on_push.result) (sym c.in-Push.is)
    (did_push events c.args.eid c.args.ipa.now c.on_push.result (c.on_push.ensures.act events) (c.on_push.ensures.stays events h))

pub returns-in-Answered-clause-did : goal.returns-in-Answered-clause-did
returns-in-Answered-clause-did c = λ events h.
    subst (λ (x : IpaInput). IfOk c.answered.result (λ a. Did events (event_of c.args.eid x) c.answered.new.ipa a)) (sym c.in-Answered.is)
    (did_answered events c.args.eid c.in-Answered.answer c.answered.new.ipa c.answered.result (c.answered.ensures.did events h))

pub returns-in-Poll-clause-did : goal.returns-in-Poll-clause-did
returns-in-Poll-clause-did c = λ events h.
    subst (λ (x : IpaInput). IfOk c.polled.result (λ a. Did events (event_of c.args.eid x) c.args.ipa.now a)) (sym c.in-Poll.is)
    (did_poll events c.args.eid c.in-Poll.to c.args.ipa.now c.polled.result (c.polled.ensures.did events h))
