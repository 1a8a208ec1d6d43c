use Rattle.std.proofs.Common.{List, ℕ, ◌+◌, ◌*◌, length, subst, ap, ◌∙◌}
use Rattle.chip_port.specs.Rules.{Torn, put}
use Rattle.chip_port.proofs.Runs.{ran_none, ran_write}
use Rattle.undo_journal.specs.Steps.{After}
use Rattle.undo_journal.proofs.Spelled.{length-directory}
use Rattle.chip_port.specs.PastLaws.{torn_same}
use Rattle.undo_journal.proofs.Torn.{written_done}
use Rattle.undo_journal.proofs.keep.write_directory.Goals as goal

pub returns-clause-told : goal.returns-clause-told
returns-clause-told g c = λ told.
    let s0 = g.C.Chip.sees c.args.chip.now in
    let n = 2 + 2 * length c.args.blocks.now in
    let P = After (Torn 512 n) s0.leaves in
    let w = c.write_at.ensures in
    let start = ran_none P s0 told (λ i was. (i, was, torn_same _ _ i)) in
    record {
      ran = ran_write start w.cause w.told (λ d i was torn. (d, was, subst (λ (k : ℕ). Torn 512 k d i) (ap length c.spell-directory.ensures ∙ length-directory c.args.blocks.now) torn));
      done = λ ok. written_done _ (w.told told) ok ∙ ap (λ (l : List ℕ). put s0.reads 512 l) c.spell-directory.ensures;
    }
