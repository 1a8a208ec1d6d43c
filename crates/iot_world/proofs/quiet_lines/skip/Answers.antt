use Rattle.iot_schedule.specs.declared.types.Line.TheVariants as line
use Rattle.small_world.specs.Texts.{no_such, skip_text}
use Rattle.iot_world.proofs.Halting.{halted}
use Rattle.iot_world.proofs.Quieting.{skipped_text, unskipped_text, worded}
use Rattle.iot_world.proofs.quiet_lines.skip.Goals as goal

pub returns-in-Some : goal.returns-in-Some
returns-in-Some c = λ w n.
    worded (line.Skip c.args.id) w (skip_text c.in-Some.end) c.halting.result c.skip.new.self c.args.out.now c.put_skip.new.out
    (halted (skip_text c.in-Some.end) c.args.out.now c.put_skip.new.out c.put_skip.result c.halting.result c.halting.ensures c.put_skip.ensures.ok) (skipped_text w c.args.id c.in-Some.end (c.in-Some.ensures.end w n)) (c.in-Some.ensures.stands w n)

pub returns-in-None : goal.returns-in-None
returns-in-None c = λ w n.
    worded (line.Skip c.args.id) w no_such c.no_such.result c.skip.new.self c.args.out.now c.no_such.new.out c.no_such.ensures (unskipped_text w c.args.id (c.in-None.ensures.end w n)) (c.in-None.ensures.stands w n)
