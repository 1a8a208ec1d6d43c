use Rattle.std.proofs.Common.{◌≡◌, ◌-◌, ◌≤◌, length}
use Rattle.sgp_fields.specs.Lists.{list_at}
use Rattle.sgp_fields.proofs.Loop.{with_front}
use Rattle.sgp_fields.proofs.lists.list.Given as goal

abbrev pub invariant-loop-rest : goal.invariant-loop-rest
invariant-loop-rest g l = let entry = g.R.Listed.entry_of in record {
  few : length l.rows ≤ l.most;
  so_far : with_front l.rows (list_at entry (l.most - length l.rows) l.rest) ≡ list_at entry l.most l.bytes;
}

abbrev pub decreases-loop-rest : goal.decreases-loop-rest
decreases-loop-rest g l = l.most - length l.rows
