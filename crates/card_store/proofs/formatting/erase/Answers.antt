use Rattle.std.proofs.Common.{◌∙◌, arith}
use Rattle.chip_port.specs.PastLaws.{torn_same}
use Rattle.chip_port.proofs.Runs.{ran_none, ran_write, ran_sync, ran_most, not_ok}
use Rattle.undo_journal.proofs.Torn.{gate_opened}
use Rattle.card_store.specs.Formatting.{ButForMagic}
use Rattle.card_store.proofs.Making.{erased}
use Rattle.card_store.proofs.formatting.erase.Goals as goal

pub returns-in_err-write_at-clause-told : goal.returns-in_err-write_at-clause-told
returns-in_err-write_at-clause-told g c = λ told.
    let s0 = g.C.Chip.sees c.args.chip.now in
    let w = c.in_err-write_at.ensures in
    let start = ran_none (ButForMagic s0) s0 told (λ i was. (i, was, torn_same 0 8 i)) in
    rw (not_ok _ c.from_residual.ensures.0) (record {
      ran = ran_most (omega arith) (ran_write start w.cause w.told (λ d i was torn. (d, was, torn)));
      alone = λ ok. absurd (cc ok);
      blank = λ ok. absurd (cc ok);
    })

pub returns-clause-told : goal.returns-clause-told
returns-clause-told g c = λ told.
    let s0 = g.C.Chip.sees c.args.chip.now in
    let w = c.in_ok-write_at.ensures in
    let y = c.sync.ensures in
    let start = ran_none (ButForMagic s0) s0 told (λ i was. (i, was, torn_same 0 8 i)) in
    record {
      ran = ran_sync (ran_write start w.cause w.told (λ d i was torn. (d, was, torn))) y.cause y.told;
      alone = λ ok. (gate_opened _ (w.told told) (y.told (w.cause.told ∙ told)) ok).1;
      blank = λ ok. erased s0.reads _ (gate_opened _ (w.told told) (y.told (w.cause.told ∙ told)) ok).0;
    }
