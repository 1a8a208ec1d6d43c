use Rattle.iot_schedule.specs.declared.types.Line.TheVariants as line
use Rattle.small_world.specs.Texts.{no_such}
use Rattle.iot_world.proofs.Quieting.{ordered, unordered_text, worded}
use Rattle.iot_world.proofs.quiet_lines.order.Goals as goal

pub returns-in-Some : goal.returns-in-Some
returns-in-Some c = λ w n.
    ordered w c.args.id c.args.body c.in-Some.end c.ordered.result c.order.new.self c.args.out.now c.ordered.new.out c.ordered.ensures.says c.ordered.ensures.booked (c.in-Some.ensures.end w n) (c.in-Some.ensures.stands w n)

pub returns-in-None : goal.returns-in-None
returns-in-None c = λ w n.
    worded (line.Order c.args.id c.args.body) w no_such c.no_such.result c.order.new.self c.args.out.now c.no_such.new.out c.no_such.ensures (unordered_text w c.args.id c.args.body (c.in-None.ensures.end w n)) (c.in-None.ensures.stands w n)
