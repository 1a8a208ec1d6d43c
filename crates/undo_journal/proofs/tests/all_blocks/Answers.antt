use Rattle.std.proofs.Common.{◌≡◌, ◌∙◌, ap, List, ℕ, suc, ◌+◌, ◌++◌, ◌∷◌, [], arith}
use Rattle.std.specs.List.{range_with_len}
use Rattle.undo_journal.proofs.Counting.{range_push}
use Rattle.undo_journal.proofs.tests.all_blocks.Goals as goal

pub loop-block-preserved : goal.loop-block-preserved
loop-block-preserved c =
    let b = c.loop-block.block in
    let next : suc b ≡ b + 1 = omega arith in
    c.in-Ok.ensures.ok ∙ ap (λ (l : List ℕ). l ++ b ∷ []) (c.deref_mut.ensures.items ∙ c.loop-block.invariant) ∙ range_push 0 b b (omega arith) ∙ ap (λ (n : ℕ). range_with_len 0 n) next
