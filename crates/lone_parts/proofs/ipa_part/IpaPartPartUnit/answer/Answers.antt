use Rattle.std.proofs.Common.{refl, sym, subst, arith}
use Rattle.part_records.specs.Spelling.{deeds}
use Rattle.part_records.proofs.Outputs.{deeds_few}
use Rattle.lone_parts.specs.Ipas.{Alone, alone, LedTo}
use Rattle.lone_parts.proofs.IpaSteps.{answered, stopped}
use Rattle.lone_parts.proofs.ipa_part.IpaPartPartUnit.answer.Goals as goal

pub returns-in-Ok-write_deeds-clause-answers : goal.returns-in-Ok-write_deeds-clause-answers
returns-in-Ok-write_deeds-clause-answers c = record {
  content = deeds c.in-Ok.deeds;
  appended = c.in-Ok-write_deeds.ensures.ok;
  short = omega (arith, deeds_few c.in-Ok.deeds c.in-Ok.ensures.range);
  stands = λ first fs text led.
      answered first.0 (alone c.self.inside) (record { ipa = c.reply.new.ipa; eid = c.self.inside.eid }) c.args.octets.now (deeds c.in-Ok.deeds) refl c.in-Ok.ensures.replied fs text
      (subst (λ (a : Alone). LedTo first.0 a fs text) (sym c.self.view_is) led);
}

pub returns-clause-answers : goal.returns-clause-answers
returns-clause-answers c = λ first fs text led.
    stopped first.0 (alone c.self.inside) c.args.octets.now c.in-Err.stop c.reply.new.ipa c.in-Err.ensures.replied fs text
    (subst (λ (a : Alone). LedTo first.0 a fs text) (sym c.self.view_is) led)
