use Rattle.std.proofs.Common.{arith, List, ℕ, ◌∙◌, subst, ap}
use Rattle.chip_port.specs.Rules.{Torn, put}
use Rattle.chip_port.proofs.Runs.{ran_none, ran_read, ran_write, ran_most, not_ok}
use Rattle.undo_journal.specs.Steps.{After}
use Rattle.chip_port.specs.PastLaws.{torn_same}
use Rattle.undo_journal.proofs.Torn.{written_done}
use Rattle.undo_journal.proofs.keep.copy_block.Goals as goal

pub returns-in_err-read-clause-told : goal.returns-in_err-read-clause-told
returns-in_err-read-clause-told g c = λ told.
    let s0 = g.C.Chip.sees c.args.chip.now in
    let r = c.in_err-read.ensures in
    let read = ran_read (ran_none (After (Torn c.args.to 256) s0.leaves) s0 told (λ i was. (i, was, torn_same _ _ i))) r.cause r.told in
    rw (not_ok _ c.from_residual.ensures.0) (record { ran = ran_most (omega arith) read; done = λ ok. absurd (cc ok) })

pub returns-clause-told : goal.returns-clause-told
returns-clause-told g c = λ told.
    let s0 = g.C.Chip.sees c.args.chip.now in
    let to = c.args.to in
    let r = c.in_ok-read.ensures in
    let read = ran_read (ran_none (After (Torn to 256) s0.leaves) s0 told (λ i was. (i, was, torn_same _ _ i))) r.cause r.told in
    let w = c.write_at.ensures in
    let written = ran_write read w.cause w.told (λ d i was torn. (d, ((r.told told).keeps.leaves d).1 was, subst (λ (n : ℕ). Torn to n d i) c.read.auto.out torn)) in
    record {
      ran = written;
      done = λ ok. written_done _ (w.told read.told) ok ∙ ap (λ (l : List ℕ). put l to c.read.new.out) (r.told told).keeps.reads ∙ ap (λ (l : List ℕ). put s0.reads to l) (r.told told).done;
    }
