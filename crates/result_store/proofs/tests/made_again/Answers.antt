use Rattle.result_store.proofs.Keeping.{same_store}
use Rattle.result_store.proofs.tests.made_again.Goals as goal

pub of-requires : goal.of-requires
of-requires c = same_store c.args.store.now c.in_ok-list.field-0 c.next.result c.rows.ensures.store c.in_ok-list.ensures c.next.ensures.next
