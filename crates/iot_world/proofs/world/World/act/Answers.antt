use Rattle.iot_schedule.specs.declared.types.Line.TheVariants as line
use Rattle.iot_world.proofs.Idling.{bind_idle, detach_idle, detach_said, eim_idle, kept_idle, modems_idle, modems_said, order_idle, poll_idle, restart_idle, show_idle, skip_idle, up_idle}
use Rattle.iot_world.proofs.Ranging.{bind_association, bind_last, initial_range, load_range, order_range}
use Rattle.iot_world.proofs.Resting.{quiet}
use Rattle.iot_world.proofs.world.World.act.Goals as goal

pub initial-requires-clause-range : goal.initial-requires-clause-range
initial-requires-clause-range g c = initial_range c.args.line c.in-Initial.id c.in-Initial.address c.in-Initial.key c.in-Initial.is c.requires.line

pub bind-requires-clause-association : goal.bind-requires-clause-association
bind-requires-clause-association g c = bind_association c.args.line c.in-Bind.id c.in-Bind.association c.in-Bind.last c.in-Bind.is c.requires.line

pub bind-requires-clause-last : goal.bind-requires-clause-last
bind-requires-clause-last g c = bind_last c.args.line c.in-Bind.id c.in-Bind.association c.in-Bind.last c.in-Bind.is c.requires.line

pub order-requires : goal.order-requires
order-requires g c = order_range c.args.line c.in-Order.id c.in-Order.body c.in-Order.is c.requires.line

pub load-requires-clause-range : goal.load-requires-clause-range
load-requires-clause-range g c = load_range c.args.line c.in-Load.good c.in-Load.bytes c.in-Load.is c.requires.line

pub returns-in-Eim-clause-acts : goal.returns-in-Eim-clause-acts
returns-in-Eim-clause-acts g c = λ first w view puts stands.
    rw c.in-Eim.is (quiet first (line.Eim c.in-Eim.id) w c.join.result _ _ _ _ (eim_idle w c.in-Eim.id) stands.world.card (c.join.ensures w stands.world.network))

pub returns-in-Bind-clause-acts : goal.returns-in-Bind-clause-acts
returns-in-Bind-clause-acts g c = λ first w view puts stands.
    rw c.in-Bind.is (quiet first (line.Bind c.in-Bind.id c.in-Bind.association c.in-Bind.last) w c.bind.result _ _ _ _ (bind_idle w c.in-Bind.id c.in-Bind.association c.in-Bind.last) stands.world.card (c.bind.ensures w stands.world.network))

pub returns-in-Order-clause-acts : goal.returns-in-Order-clause-acts
returns-in-Order-clause-acts g c = λ first w view puts stands.
    rw c.in-Order.is (quiet first (line.Order c.in-Order.id c.in-Order.body) w c.order.result _ _ _ _ (order_idle w c.in-Order.id c.in-Order.body) stands.world.card (c.order.ensures w stands.world.network))

pub returns-in-Skip-clause-acts : goal.returns-in-Skip-clause-acts
returns-in-Skip-clause-acts g c = λ first w view puts stands.
    rw c.in-Skip.is (quiet first (line.Skip c.in-Skip.id) w c.skip.result _ _ _ _ (skip_idle w c.in-Skip.id) stands.world.card (c.skip.ensures w stands.world.network))

pub returns-in-Poll-clause-acts : goal.returns-in-Poll-clause-acts
returns-in-Poll-clause-acts g c = λ first w view puts stands.
    rw c.in-Poll.is (quiet first (line.Poll c.in-Poll.id) w c.poll.result _ _ _ _ (poll_idle w c.in-Poll.id) stands.world.card (c.poll.ensures w stands.world.network))

pub returns-in-Up-clause-acts : goal.returns-in-Up-clause-acts
returns-in-Up-clause-acts g c = λ first w view puts stands.
    rw c.in-Up.is (quiet first (line.Up c.in-Up.pick) w c.up.result _ _ _ _ (up_idle w c.in-Up.pick) stands.world.card (c.up.ensures w stands.world.network))

pub returns-in-Restart-clause-acts : goal.returns-in-Restart-clause-acts
returns-in-Restart-clause-acts g c = λ first w view puts stands.
    rw c.in-Restart.is (quiet first (line.Restart) w c.restart.result _ _ _ _ (restart_idle w) stands.world.card (c.restart.ensures w stands.world.network))

pub returns-in-Show-clause-acts : goal.returns-in-Show-clause-acts
returns-in-Show-clause-acts g c = λ first w view puts stands.
    rw c.in-Show.is (quiet first (line.Show) w c.show.result _ _ _ _ (show_idle w) stands.world.card (c.show.ensures.shows w stands.world.network stands.world.card.held_is))

pub returns-in-Kept-clause-acts : goal.returns-in-Kept-clause-acts
returns-in-Kept-clause-acts g c = λ first w view puts stands.
    rw c.in-Kept.is (quiet first (line.Kept c.in-Kept.id) w c.kept.result _ _ _ _ (kept_idle w c.in-Kept.id) stands.world.card (c.kept.ensures w stands.world.network))

pub returns-in-Detach-clause-acts : goal.returns-in-Detach-clause-acts
returns-in-Detach-clause-acts g c = λ first w view puts stands.
    rw c.in-Detach.is (quiet first (line.Detach c.in-Detach.at) w c.detach.result _ _ _ _ (detach_idle w c.in-Detach.at) stands.world.card (detach_said w c.in-Detach.at _ c.detach.result _ _ stands.world.network (c.detach.ensures.says w view stands.same_modems)))

pub returns-in-Modems-clause-acts : goal.returns-in-Modems-clause-acts
returns-in-Modems-clause-acts g c = λ first w view puts stands.
    rw c.in-Modems.is (quiet first (line.Modems) w c.print.result _ _ _ _ (modems_idle w) stands.world.card (modems_said w _ c.print.result _ _ stands.world.network (c.print.ensures w view puts (rw c.as_slice.ensures.value stands.same_modems))))

pub returns-in-Initial-clause-acts : goal.returns-in-Initial-clause-acts
returns-in-Initial-clause-acts g c = λ first w view puts stands. rw c.in-Initial.is (c.initial.ensures.acts first w stands.world)

pub returns-in-Down-clause-acts : goal.returns-in-Down-clause-acts
returns-in-Down-clause-acts g c = λ first w view puts stands. rw c.in-Down.is (c.down.ensures.acts first w stands.world)

pub returns-in-Load-clause-acts : goal.returns-in-Load-clause-acts
returns-in-Load-clause-acts g c = λ first w view puts stands. rw c.in-Load.is (c.load.ensures.acts first w stands.world)

pub returns-in-Push-clause-acts : goal.returns-in-Push-clause-acts
returns-in-Push-clause-acts g c = λ first w view puts stands. rw c.in-Push.is (c.push.ensures.acts first w stands.world)

pub returns-in-Probe-clause-acts : goal.returns-in-Probe-clause-acts
returns-in-Probe-clause-acts g c = λ first w view puts stands. rw c.in-Probe.is (c.probe.ensures.acts first w stands.world)

pub returns-in-Rollback-clause-acts : goal.returns-in-Rollback-clause-acts
returns-in-Rollback-clause-acts g c = λ first w view puts stands. rw c.in-Rollback.is (c.roll_back.ensures.acts first w stands.world)

pub returns-in-Cut-clause-acts : goal.returns-in-Cut-clause-acts
returns-in-Cut-clause-acts g c = λ first w view puts stands. rw c.in-Cut.is (c.cut.ensures.acts first w stands.world)

pub returns-in-Boot-clause-acts : goal.returns-in-Boot-clause-acts
returns-in-Boot-clause-acts g c = λ first w view puts stands. rw c.in-Boot.is (c.boot.ensures.acts first w stands.world)
