use Rattle.std.proofs.Common.{arith, List, ap, ℕ, get_or, length-set, ◌∙◌}
use Rattle.undo_journal.proofs.Spelled.{spelled_one}
use Rattle.undo_journal.proofs.directory.spell.Goals as goal

pub loop-entry-preserved : goal.loop-entry-preserved
loop-entry-preserved c = let h = c.to_be_bytes-in-loop-entry.ensures in
    record {
      size = simp length-set c.loop-entry.invariant.size;
      so_far = spelled_one c.loop-entry.out c.args.blocks.now c.loop-entry.entry _ _ (omega arith) (omega (arith, c.requires)) c.loop-entry.invariant.so_far
          (ap (λ (l : List ℕ). get_or l 0 0) h ∙ omega arith)
          (ap (λ (l : List ℕ). get_or l 1 0) h);
    }
