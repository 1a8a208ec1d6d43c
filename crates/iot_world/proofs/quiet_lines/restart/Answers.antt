use Rattle.std.specs.Prelude.{codes}
use Rattle.iot_schedule.specs.declared.types.Line.TheVariants as line
use Rattle.iot_world.proofs.Quieting.{restarted, worded}
use Rattle.iot_world.proofs.quiet_lines.restart.Goals as goal

pub returns : goal.returns
returns c = λ w n.
    worded line.Restart w (codes "restarted") c.put_word.result c.restart.new.self c.args.out.now c.put_word.new.out c.put_word.ensures (restarted w) (c.restart.ensures w n)
