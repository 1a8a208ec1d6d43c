use Rattle.iot_schedule.specs.declared.types.Line.TheVariants as line
use Rattle.small_world.specs.Texts.{no_such, sent_text}
use Rattle.iot_world.proofs.Halting.{halted}
use Rattle.iot_world.proofs.Quieting.{polled_text, polls, polls_count, unpolled_text, worded}
use Rattle.iot_world.proofs.quiet_lines.poll.Goals as goal

pub returns-in-Ok-true : goal.returns-in-Ok-true
returns-in-Ok-true c = λ w n.
    let first = c.sent-first.result in
    let text = sent_text c.sent-first.result (polls w c.args.id) in
    let now = c.in-Ok-true.ensures.stands w n in
    let known = c.in-Ok-true.ensures.known w n in
    let at = c.sent-first.ensures w n in
    let count = polls_count w c.args.id c.in-Ok-true.field-0 first c.sent.result c.saturating_sub-sent.result known c.in-Ok-true.field-0-test at (c.sent.ensures _ now) c.saturating_sub-sent.ensures in
    worded (line.Poll c.args.id) w text c.halting.result c.poll.new.self c.args.out.now c.put_sent.new.out
    (halted text c.args.out.now c.put_sent.new.out c.put_sent.result c.halting.result c.halting.ensures (c.put_sent.ensures.ok (polls w c.args.id) count)) (polled_text w c.args.id c.in-Ok-true.field-0 first known c.in-Ok-true.field-0-test at) now

pub returns-in-Ok-false : goal.returns-in-Ok-false
returns-in-Ok-false c = λ w n.
    worded (line.Poll c.args.id) w no_such c.no_such.result c.poll.new.self c.args.out.now c.no_such.new.out c.no_such.ensures
    (unpolled_text w c.args.id c.in-Ok-false.field-0 (c.in-Ok-false.ensures.known w n) c.in-Ok-false.field-0-test) (c.in-Ok-false.ensures.stands w n)
