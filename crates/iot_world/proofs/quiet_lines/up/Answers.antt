use Rattle.std.proofs.Common.{sym, ◌∙◌}
use Rattle.iot_schedule.specs.declared.types.Line.TheVariants as line
use Rattle.small_world.specs.Texts.{answer_text, no_such}
use Rattle.iot_world.proofs.Halting.{halted}
use Rattle.iot_world.proofs.Quieting.{gone_text, ungone_text, worded}
use Rattle.iot_world.proofs.quiet_lines.up.Goals as goal

pub returns-in-Ok-Some : goal.returns-in-Ok-Some
returns-in-Ok-Some c = λ w n.
    let text = answer_text c.replied-place.result c.in-Ok-Some.end in
    worded (line.Up c.args.pick) w text c.halting.result c.up.new.self c.args.out.now c.put_answer.new.out
    (halted text c.args.out.now c.put_answer.new.out c.put_answer.result c.halting.result c.halting.ensures c.put_answer.ensures.ok) (gone_text w c.args.pick c.in-Ok-Some.end c.replied-place.result (sym c.in-Ok-Some.field-0-is ∙ c.in-Ok-Some.ensures.end w n) (c.replied-place.ensures w n)) (c.in-Ok-Some.ensures.stands w n)

pub returns-in-Ok-None : goal.returns-in-Ok-None
returns-in-Ok-None c = λ w n.
    worded (line.Up c.args.pick) w no_such c.no_such.result c.up.new.self c.args.out.now c.no_such.new.out c.no_such.ensures
    (ungone_text w c.args.pick (sym c.in-Ok-None.field-0-is ∙ c.in-Ok-None.ensures.end w n)) (c.in-Ok-None.ensures.stands w n)
