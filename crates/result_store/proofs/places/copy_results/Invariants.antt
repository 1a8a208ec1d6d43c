use Rattle.std.proofs.Common.{◌≡◌, ◌≤◌, ◌+◌, length, take}
use Rattle.result_store.proofs.places.copy_results.Given as goal

abbrev pub invariant-loop-kept : goal.invariant-loop-kept
invariant-loop-kept l = (l.out.items ≡ take l.kept-index l.rows) × (l.room ≤ length l.out.items + l.out.spare)
