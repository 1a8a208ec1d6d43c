use Rattle.std.proofs.Common.{arith, inl, inr, refl, rules, sym, subst}
use Rattle.iot_program.specs.declared.words.Form.{Form}
use Rattle.iot_program.specs.Ends.{HandledBy, StopsBy}
use Rattle.iot_program.proofs.Serving.{does_of}
use Rattle.iot_program.proofs.run.run_form.Goals as goal

pub returns-in-Card-clause-does : goal.returns-in-Card-clause-does
returns-in-Card-clause-does g c = does_of c.args.form _ c.run_card.result _ _ _ _ _ _ c.in-Card.is c.run_card.ensures.served

pub returns-in-Card-clause-complete : goal.returns-in-Card-clause-complete
returns-in-Card-clause-complete g c = λ input fs told is handled no_read no_write calm.
    c.run_card.ensures.complete input fs told is (subst (λ (f : Form). HandledBy f (g.B.Chip.sees c.args.bench.now) fs) c.in-Card.is handled) no_read no_write calm

pub returns-in-Eim-clause-does : goal.returns-in-Eim-clause-does
returns-in-Eim-clause-does g c = does_of c.args.form _ c.run_eim.result _ _ _ _ _ _ c.in-Eim.is c.run_eim.ensures.ran

pub returns-in-Eim-clause-complete : goal.returns-in-Eim-clause-complete
returns-in-Eim-clause-complete g c = λ input fs told is handled no_read no_write calm.
    c.run_eim.ensures.complete input fs told is (subst (λ (f : Form). HandledBy f (g.B.Chip.sees c.args.bench.now) fs) c.in-Eim.is handled) no_read no_write

pub returns-in-Ipa-clause-does : goal.returns-in-Ipa-clause-does
returns-in-Ipa-clause-does g c = does_of c.args.form _ c.run_ipa.result _ _ _ _ _ _ c.in-Ipa.is c.run_ipa.ensures.ran

pub returns-in-Ipa-clause-complete : goal.returns-in-Ipa-clause-complete
returns-in-Ipa-clause-complete g c = λ input fs told is handled no_read no_write calm.
    c.run_ipa.ensures.complete input fs told is (subst (λ (f : Form). HandledBy f (g.B.Chip.sees c.args.bench.now) fs) c.in-Ipa.is handled) no_read no_write

pub returns-in-Card-clause-stops : goal.returns-in-Card-clause-stops
returns-in-Card-clause-stops g c = λ input fs tail told is handled no_read no_write calm.
    subst (λ (f : Form). StopsBy f (g.B.Chip.sees c.args.bench.now) fs tail c.run_card.result) (sym c.in-Card.is) (c.run_card.ensures.stops input fs tail told is (subst (λ (f : Form). HandledBy f (g.B.Chip.sees c.args.bench.now) fs) c.in-Card.is handled) no_read no_write calm)

pub returns-in-Eim-clause-stops : goal.returns-in-Eim-clause-stops
returns-in-Eim-clause-stops g c = λ input fs tail told is handled no_read no_write calm.
    subst (λ (f : Form). StopsBy f (g.B.Chip.sees c.args.bench.now) fs tail c.run_eim.result) (sym c.in-Eim.is) (c.run_eim.ensures.stops input fs tail told is (subst (λ (f : Form). HandledBy f (g.B.Chip.sees c.args.bench.now) fs) c.in-Eim.is handled) no_read no_write)

pub returns-in-Ipa-clause-stops : goal.returns-in-Ipa-clause-stops
returns-in-Ipa-clause-stops g c = λ input fs tail told is handled no_read no_write calm.
    subst (λ (f : Form). StopsBy f (g.B.Chip.sees c.args.bench.now) fs tail c.run_ipa.result) (sym c.in-Ipa.is) (c.run_ipa.ensures.stops input fs tail told is (subst (λ (f : Form). HandledBy f (g.B.Chip.sees c.args.bench.now) fs) c.in-Ipa.is handled) no_read no_write)

pub returns-in-Check-clause-does : goal.returns-in-Check-clause-does
returns-in-Check-clause-does g c = does_of c.args.form _ c.run_check.result _ _ _ _ _ _ c.in-Check.is c.run_check.ensures.ran

pub returns-in-Check-clause-complete : goal.returns-in-Check-clause-complete
returns-in-Check-clause-complete g c = λ input fs told is handled no_read no_write calm. absurd (subst (λ (f : Form). HandledBy f (g.B.Chip.sees c.args.bench.now) fs) c.in-Check.is handled)

pub returns-in-Check-clause-stops : goal.returns-in-Check-clause-stops
returns-in-Check-clause-stops g c = λ input fs tail told is handled no_read no_write calm. absurd (subst (λ (f : Form). HandledBy f (g.B.Chip.sees c.args.bench.now) fs) c.in-Check.is handled)

pub returns-in-Check-clause-checks : goal.returns-in-Check-clause-checks
returns-in-Check-clause-checks g c = λ input form told. record {
  done = c.run_check.ensures.done input told;
  complete = c.run_check.ensures.complete input told;
  stops = λ ls more. c.run_check.ensures.stops input ls more told;
}

pub returns-in-Gen-clause-does : goal.returns-in-Gen-clause-does
returns-in-Gen-clause-does g c = does_of c.args.form _ c.run_gen.result _ _ _ _ _ _ c.in-Gen.is (record { generated = c.run_gen.ensures.generated; unread = refl; no_faults = refl })

pub returns-in-Gen-clause-complete : goal.returns-in-Gen-clause-complete
returns-in-Gen-clause-complete g c = λ input fs told is handled no_read no_write calm. absurd (subst (λ (f : Form). HandledBy f (g.B.Chip.sees c.args.bench.now) fs) c.in-Gen.is handled)

pub returns-in-Gen-clause-stops : goal.returns-in-Gen-clause-stops
returns-in-Gen-clause-stops g c = λ input fs tail told is handled no_read no_write calm. absurd (subst (λ (f : Form). HandledBy f (g.B.Chip.sees c.args.bench.now) fs) c.in-Gen.is handled)

pub returns-in-Gen-clause-own : goal.returns-in-Gen-clause-own
returns-in-Gen-clause-own g c = λ one. elim c.run_gen.ensures.statuses [
  | inl zero ↦ omega (arith, zero, one)
  | inr others ↦
      elim others [
        | inl three ↦ omega (arith, three, one)
        | inr six ↦ omega (arith, six, one)
      ]
]

pub returns-in-Gen-clause-causes : goal.returns-in-Gen-clause-causes
returns-in-Gen-clause-causes g c = record {
  read_later = omega arith;
  write_later = c.run_gen.ensures.monotone;
  read = λ two. elim c.run_gen.ensures.statuses [
    | inl zero ↦ absurd (omega (arith, zero, two))
    | inr others ↦
        elim others [
          | inl three ↦ absurd (omega (arith, three, two))
          | inr six ↦ absurd (omega (arith, six, two))
        ]
  ];
  write = c.run_gen.ensures.fault;
}

pub returns-in-Replay-clause-does : goal.returns-in-Replay-clause-does
returns-in-Replay-clause-does g c =
    does_of c.args.form _ c.run_replay.result _ _ _ _ _ _ c.in-Replay.is (c.run_replay.ensures.replayed (λ b. ((goal.Modem-dyn g (b.vtable, b.value)).shown_iccid b.value, (goal.Modem-dyn g (b.vtable, b.value)).refresh_count b.value)) (λ modem now left post. search rules) (λ out modem result left post. search rules))

pub returns-in-Replay-clause-complete : goal.returns-in-Replay-clause-complete
returns-in-Replay-clause-complete g c = λ input fs told is handled no_read no_write calm. absurd (subst (λ (f : Form). HandledBy f (g.B.Chip.sees c.args.bench.now) fs) c.in-Replay.is handled)

pub returns-in-Replay-clause-stops : goal.returns-in-Replay-clause-stops
returns-in-Replay-clause-stops g c = λ input fs tail told is handled no_read no_write calm. absurd (subst (λ (f : Form). HandledBy f (g.B.Chip.sees c.args.bench.now) fs) c.in-Replay.is handled)

pub returns-in-Replay-clause-replays : goal.returns-in-Replay-clause-replays
returns-in-Replay-clause-replays g c = λ input form content told. record {
  done = c.run_replay.ensures.done (λ b. ((goal.Modem-dyn g (b.vtable, b.value)).shown_iccid b.value, (goal.Modem-dyn g (b.vtable, b.value)).refresh_count b.value)) input (λ modem now left post. search rules) (λ out modem result left post. search rules) content told;
  complete = c.run_replay.ensures.complete (λ b. ((goal.Modem-dyn g (b.vtable, b.value)).shown_iccid b.value, (goal.Modem-dyn g (b.vtable, b.value)).refresh_count b.value)) input (λ modem now left post. search rules) (λ out modem result left post. search rules) content told;
  stops = λ ls more. c.run_replay.ensures.stops (λ b. ((goal.Modem-dyn g (b.vtable, b.value)).shown_iccid b.value, (goal.Modem-dyn g (b.vtable, b.value)).refresh_count b.value)) input ls more (λ modem now left post. search rules) (λ out modem result left post. search rules) content told;
}

pub returns-in-Demo-clause-does : goal.returns-in-Demo-clause-does
returns-in-Demo-clause-does g c =
    does_of c.args.form _ c.run_demo.result _ _ _ _ _ _ c.in-Demo.is (record {
      demonstrated = c.run_demo.ensures.demonstrated (λ b. ((goal.Modem-dyn g (b.vtable, b.value)).shown_iccid b.value, (goal.Modem-dyn g (b.vtable, b.value)).refresh_count b.value)) (λ modem now left post. search rules) (λ out modem result left post. search rules);
      unread = refl;
      no_faults = refl;
    })

pub returns-in-Demo-clause-complete : goal.returns-in-Demo-clause-complete
returns-in-Demo-clause-complete g c = λ input fs told is handled no_read no_write calm. absurd (subst (λ (f : Form). HandledBy f (g.B.Chip.sees c.args.bench.now) fs) c.in-Demo.is handled)

pub returns-in-Demo-clause-stops : goal.returns-in-Demo-clause-stops
returns-in-Demo-clause-stops g c = λ input fs tail told is handled no_read no_write calm. absurd (subst (λ (f : Form). HandledBy f (g.B.Chip.sees c.args.bench.now) fs) c.in-Demo.is handled)

pub returns-in-Demo-clause-causes : goal.returns-in-Demo-clause-causes
returns-in-Demo-clause-causes g c = record {
  read_later = omega arith;
  write_later = c.run_demo.ensures.monotone;
  read = λ two. absurd (c.run_demo.ensures.own.1 two);
  write = c.run_demo.ensures.fault;
}
