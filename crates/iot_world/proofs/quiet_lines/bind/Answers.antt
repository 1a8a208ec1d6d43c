use Rattle.iot_schedule.specs.declared.types.Line.TheVariants as line
use Rattle.small_world.specs.Texts.{bind_text, no_such}
use Rattle.iot_world.proofs.Halting.{halted}
use Rattle.iot_world.proofs.Quieting.{bound_text, unbound_text, worded}
use Rattle.iot_world.proofs.quiet_lines.bind.Goals as goal

pub returns-in-Some : goal.returns-in-Some
returns-in-Some c = λ w n.
    worded (line.Bind c.args.id c.args.association c.args.last) w (bind_text c.in-Some.end) c.halting.result c.bind.new.self c.args.out.now c.put_bind.new.out
    (halted (bind_text c.in-Some.end) c.args.out.now c.put_bind.new.out c.put_bind.result c.halting.result c.halting.ensures c.put_bind.ensures.ok) (bound_text w c.args.id c.args.association c.args.last c.in-Some.end (c.in-Some.ensures.end w n)) (c.in-Some.ensures.stands w n)

pub returns-in-None : goal.returns-in-None
returns-in-None c = λ w n.
    worded (line.Bind c.args.id c.args.association c.args.last) w no_such c.no_such.result c.bind.new.self c.args.out.now c.no_such.new.out c.no_such.ensures (unbound_text w c.args.id c.args.association c.args.last (c.in-None.ensures.end w n)) (c.in-None.ensures.stands w n)
