use Rattle.std.proofs.Common.{arith}
use Rattle.chip_port.proofs.Runs.{ran_write, ran_most, not_ok}
use Rattle.undo_journal.proofs.Closing.{home_synced, gate_torn, gate_closed}
use Rattle.undo_journal.proofs.gate.close.Goals as goal

pub returns-in-Err-clause-told : goal.returns-in-Err-clause-told
returns-in-Err-clause-told g c = λ told blocks old before are all.
    let y = c.in-Err.ensures in
    record {
      ran = ran_most (omega arith) (home_synced are all told y.cause y.told);
      idle = λ ok. absurd (cc ok);
      home_now = λ ok. absurd (cc ok);
      gate = λ ok. absurd (cc ok);
      content = λ ok. absurd (cc ok);
    }

pub returns-in_err-write_at-in-Ok-clause-told : goal.returns-in_err-write_at-in-Ok-clause-told
returns-in_err-write_at-in-Ok-clause-told g c = λ told blocks old before are all.
    let s0 = g.C.Chip.sees c.args.chip.now in
    let y = c.in-Ok.ensures in
    let w = c.in_err-write_at-in-Ok.ensures in
    let now = all s0.reads (g.met.C.Chip.sound c.args.chip.now told).reads_now in
    rw (not_ok _ c.from_residual.ensures.0) (record {
      ran = ran_most (omega arith) (ran_write (home_synced are all told y.cause y.told) w.cause w.told (gate_torn blocks old before s0.reads _ are now (y.told told).done));
      idle = λ ok. absurd (cc ok);
      home_now = λ ok. absurd (cc ok);
      gate = λ ok. absurd (cc ok);
      content = λ ok. absurd (cc ok);
    })

-- The last call is left to `assumption`, so that an edit of it meets the clauses.
pub returns-in_ok-write_at-in-Ok-clause-told : goal.returns-in_ok-write_at-in-Ok-clause-told
returns-in_ok-write_at-in-Ok-clause-told g c = λ told blocks old before are all.
    let y = c.in-Ok.ensures in
    let w = c.in_ok-write_at-in-Ok.ensures in
    gate_closed are all (g.met.C.Chip.sound c.args.chip.now told) told y.cause y.told w.cause w.told (assumption c) (assumption c)
