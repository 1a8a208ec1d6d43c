use Rattle.std.proofs.Common.{arith, ◌≡◌, ◌∙◌}
use Rattle.std.specs.Prelude.{Some}
use Rattle.chip_port.proofs.Runs.{ran_none, ran_write, ran_sync, ran_most, not_ok}
use Rattle.undo_journal.specs.Home.{home}
use Rattle.chip_port.specs.PastLaws.{torn_same}
use Rattle.undo_journal.proofs.Torn.{gate_opened}
use Rattle.undo_journal.proofs.Gates.{opening, put_gate}
use Rattle.undo_journal.proofs.Keeping.{gate_raised}
use Rattle.undo_journal.proofs.gate.raise.Goals as goal

pub returns-in_err-write_at-clause-told : goal.returns-in_err-write_at-clause-told
returns-in_err-write_at-clause-told g c = λ told blocks before are all.
    let s0 = g.C.Chip.sees c.args.chip.now in
    let w = c.in_err-write_at.ensures in
    let start = ran_none (λ i. home i ≡ Some before) s0 told (λ i was. opening blocks before i i are (all i was) (torn_same 256 1 i)) in
    rw (not_ok _ c.from_residual.ensures.0) (record {
      ran = ran_most (omega arith) (ran_write start w.cause w.told (λ d i was torn. opening blocks before d i are (all d was) torn));
      opened = λ ok. absurd (cc ok);
      home_now = λ ok. absurd (cc ok);
    })

pub returns-clause-told : goal.returns-clause-told
returns-clause-told g c = λ told blocks before are all.
    let s0 = g.C.Chip.sees c.args.chip.now in
    let w = c.in_ok-write_at.ensures in
    let y = c.sync.ensures in
    let start = ran_none (λ i. home i ≡ Some before) s0 told (λ i was. opening blocks before i i are (all i was) (torn_same 256 1 i)) in
    let rec = all s0.reads (g.met.C.Chip.sound c.args.chip.now told).reads_now in
    record {
      ran = ran_sync (ran_write start w.cause w.told (λ d i was torn. opening blocks before d i are (all d was) torn)) y.cause y.told;
      opened = λ ok i now.
          let opened = gate_opened _ (w.told told) (y.told (w.cause.told ∙ told)) ok in
          gate_raised blocks before s0.reads i are rec (opened.1 i now ∙ opened.0);
      home_now = λ ok.
          let opened = gate_opened _ (w.told told) (y.told (w.cause.told ∙ told)) ok in
          (put_gate _ s0.reads 165 rec.keeps.size opened.0).0 ∙ rec.home;
    }
