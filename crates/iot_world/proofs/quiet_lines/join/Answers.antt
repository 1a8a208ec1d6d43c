use Rattle.std.specs.Prelude.{codes}
use Rattle.iot_schedule.specs.declared.types.Line.TheVariants as line
use Rattle.iot_world.proofs.Quieting.{exists, joins, joined_network, worded}
use Rattle.iot_world.proofs.quiet_lines.join.Goals as goal

pub returns-in-Ok-true : goal.returns-in-Ok-true
returns-in-Ok-true c = λ w n.
    worded (line.Eim c.args.id) w (codes "eim ok") c.put_word.result c.join.new.self c.args.out.now c.put_word.new.out c.put_word.ensures
    (joins w c.args.id c.in-Ok-true.field-0 (c.in-Ok-true.ensures.joined w n) c.in-Ok-true.field-0-test) (joined_network c.join.new.self w c.args.id (c.in-Ok-true.ensures.stands w n))

pub returns-in-Ok-false : goal.returns-in-Ok-false
returns-in-Ok-false c = λ w n.
    worded (line.Eim c.args.id) w (codes "eim exists") c.put_word-in-Ok-false.result c.join.new.self c.args.out.now c.put_word-in-Ok-false.new.out c.put_word-in-Ok-false.ensures
    (exists w c.args.id c.in-Ok-false.field-0 (c.in-Ok-false.ensures.joined w n) c.in-Ok-false.field-0-test) (joined_network c.join.new.self w c.args.id (c.in-Ok-false.ensures.stands w n))
