use Rattle.std.proofs.Common.{◌≡◌, ◌-◌, ◌≤◌, length}
use Rattle.iot_schedule.specs.Words.{list_of}
use Rattle.sgp_fields.proofs.Loop.{with_front}
use Rattle.iot_schedule.proofs.words.Words.list.Given as goal

abbrev pub invariant-loop-alloc : goal.invariant-loop-alloc
invariant-loop-alloc g l = let of = g.T.Word.value_of in record {
  few : length l.values ≤ l.most;
  so_far : with_front l.values (list_of of (l.most - length l.values) l.self) ≡ list_of of l.most l.fn.self;
}

abbrev pub decreases-loop-alloc : goal.decreases-loop-alloc
decreases-loop-alloc g l = l.most - length l.values
