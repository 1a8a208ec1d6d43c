use Rattle.std.proofs.Common.{◌∙◌, sym}
use Rattle.std.proofs.lemmas.Bool.{false≢true}
use Rattle.small_card.specs.Ranges.{IsCommand}
use Rattle.esipa_codec.specs.Assistant.{probe}
use Rattle.iot_schedule.specs.declared.types.Line.TheVariants as line
use Rattle.iot_world.proofs.Carrying.{stands_heard}
use Rattle.iot_world.proofs.Messaging.{probe_carried, probe_prints, probe_else, probe_idle, probe_said}
use Rattle.iot_world.proofs.Resting.{quiet}
use Rattle.iot_world.proofs.world.World.probe.Goals as goal

pub carry_alone-requires-clause-range : goal.carry_alone-requires-clause-range
unfolding IsCommand
carry_alone-requires-clause-range g c = tt

pub returns-then-is_rollback-clause-acts : goal.returns-then-is_rollback-clause-acts
returns-then-is_rollback-clause-acts g c = λ first w stands.
    let acts = sym (c.probe-act.ensures.act w stands.network) ∙ c.is_rollback.ensures.0 c.if-is_rollback.true in
    c.carry_alone.ensures.acts first w _ (probe c.args.passed) (probe_carried w c.args.passed acts) (probe_prints w c.args.passed acts) (stands_heard first w (probe c.args.passed) _ _ _ stands (c.probe-act.ensures.stands w stands.network))

pub returns-clause-acts : goal.returns-clause-acts
returns-clause-acts g c = λ first w stands.
    let does = c.probe-act.ensures.act w stands.network in
    let heard = c.probe-act.ensures.stands w stands.network in
    let rests = probe_else w c.args.passed c.probe-act.result does (λ is. absurd (false≢true (sym c.if-is_rollback.false ∙ c.is_rollback.ensures.1 is))) in
    quiet first (line.Probe c.args.passed) w c.strikes-else-is_rollback.result _ _ _ _ (probe_idle w c.args.passed rests) stands.card
    (probe_said w c.args.passed _ c.strikes.result c.strikes-else-is_rollback.result _ _ rests heard (c.strikes.ensures _ heard) c.strikes-else-is_rollback.ensures)
