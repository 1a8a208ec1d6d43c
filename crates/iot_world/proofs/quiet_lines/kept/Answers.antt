use Rattle.iot_schedule.specs.declared.types.Line.TheVariants as line
use Rattle.small_world.specs.Texts.{no_such}
use Rattle.trace_text.specs.Texts.{kept_text}
use Rattle.iot_world.proofs.Halting.{halted}
use Rattle.iot_world.proofs.Quieting.{kept_network, records_text, unkept_text, worded}
use Rattle.iot_world.proofs.quiet_lines.kept.Goals as goal

pub returns-in-Some : goal.returns-in-Some
returns-in-Some c = λ w n.
    worded (line.Kept c.args.id) w (kept_text c.in-Some.records.now) c.halting.result c.args.network.now c.args.out.now c.put_kept.new.out
    (halted (kept_text c.in-Some.records.now) c.args.out.now c.put_kept.new.out c.put_kept.result c.halting.result c.halting.ensures c.put_kept.ensures.ok) (records_text w c.args.id c.in-Some.records.now (c.in-Some.ensures w n)) (kept_network c.args.network.now w c.args.id n)

pub returns-in-None : goal.returns-in-None
returns-in-None c = λ w n.
    worded (line.Kept c.args.id) w no_such c.no_such.result c.args.network.now c.args.out.now c.no_such.new.out c.no_such.ensures (unkept_text w c.args.id (c.in-None.ensures w n)) (kept_network c.args.network.now w c.args.id n)
