use Rattle.std.proofs.Common.{arith}
use Rattle.part_records.specs.Spelling.{eim_output}
use Rattle.part_records.proofs.Outputs.{eim_output_few}
use Rattle.lone_parts.proofs.EimSteps.{answered, stopped}
use Rattle.lone_parts.proofs.eim_part.EimPartPartUnit.answer.Goals as goal

pub returns-in-Ok-write_eim_output-clause-answers : goal.returns-in-Ok-write_eim_output-clause-answers
returns-in-Ok-write_eim_output-clause-answers c = record {
  content = eim_output c.in-Ok.output;
  appended = c.in-Ok-write_eim_output.ensures.ok;
  short = omega (arith, eim_output_few c.in-Ok.output c.in-Ok.ensures.range);
  stands = λ first fs text led. answered first.0.eim c.args.self.now.eim c.reply.new.eim c.args.octets.now c.in-Ok.output c.in-Ok.ensures.replied fs text led;
}

pub returns-clause-answers : goal.returns-clause-answers
returns-clause-answers c = λ first fs text led. stopped first.0.eim c.args.self.now.eim c.args.octets.now c.in-Err.stop c.reply.new.eim c.in-Err.ensures.replied fs text led
