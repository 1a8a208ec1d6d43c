use Rattle.small_card.proofs.Pending.{load_adds, rollback_marks, remove_takes_out, others_leave}
use Rattle.small_card.proofs.laws.pending_results_change.Goals as goal

pub returns : goal.returns
returns c = record {
  load = λ h p l m. load_adds h p;
  rollback = rollback_marks;
  remove = remove_takes_out;
  others = λ h u l o. others_leave h u o;
}
