use Rattle.std.proofs.Common.{◌∙◌, sym}
use Rattle.iot_schedule.specs.declared.types.Line.TheVariants as line
use Rattle.iot_world.proofs.Carrying.{stands_heard}
use Rattle.iot_world.proofs.Messaging.{brought_by, none_brought, heard_brought, down_carried, down_prints, rest_idle, rest_said, unnamed_idle, unnamed_said}
use Rattle.iot_world.proofs.Resting.{quiet}
use Rattle.iot_world.proofs.world.World.down.Goals as goal

pub returns-in-Some-clause-acts : goal.returns-in-Some-clause-acts
returns-in-Some-clause-acts g c = λ first w stands.
    let b = brought_by w c.args.good _ c.in-Ok-Some.act (rw c.in-Ok-Some.field-0-is at c.in-Ok-Some.ensures.act w stands.network) in
    let gives = sym c.command_of.ensures ∙ c.in-Some.is in
    let heard = heard_brought w c.args.good _ c.in-Ok-Some.act _ b (c.in-Ok-Some.ensures.stands w stands.network) in
    c.carry.ensures.acts first w _ _ (down_carried w c.args.pick c.args.good c.in-Ok-Some.act c.in-Some.command b gives) (down_prints w c.args.pick c.args.good c.in-Ok-Some.act c.in-Some.command b gives) (stands_heard first w _ _ _ _ stands heard)

pub returns-in-None-clause-acts : goal.returns-in-None-clause-acts
returns-in-None-clause-acts g c = λ first w stands.
    let b = brought_by w c.args.good _ c.in-Ok-Some.act (rw c.in-Ok-Some.field-0-is at c.in-Ok-Some.ensures.act w stands.network) in
    let gives = sym c.command_of.ensures ∙ c.in-None.is in
    let heard = heard_brought w c.args.good _ c.in-Ok-Some.act _ b (c.in-Ok-Some.ensures.stands w stands.network) in
    quiet first (line.Down c.args.pick c.args.good) w c.put_word.result _ _ _ _ (rest_idle w c.args.pick c.args.good c.in-Ok-Some.act b gives) stands.card
    (rest_said w c.args.pick c.args.good c.in-Ok-Some.act _ c.put_word.result _ _ b gives heard c.put_word.ensures)

pub returns-in-Ok-None-clause-acts : goal.returns-in-Ok-None-clause-acts
returns-in-Ok-None-clause-acts g c = λ first w stands.
    let none = none_brought w c.args.good _ (rw c.in-Ok-None.field-0-is at c.in-Ok-None.ensures.act w stands.network) in
    quiet first (line.Down c.args.pick c.args.good) w c.put_word-in-Ok-None.result _ _ _ _ (unnamed_idle w c.args.pick c.args.good none) stands.card
    (unnamed_said w c.args.pick c.args.good _ c.put_word-in-Ok-None.result _ _ none (c.in-Ok-None.ensures.stands w stands.network) c.put_word-in-Ok-None.ensures)
