use Rattle.result_store.proofs.Standing.{result_stays, result_same, result_untouched, result_removed, result_comes}
use Rattle.result_store.proofs.laws.kept_until_removed.Goals as goal

pub returns-clause-stays : goal.returns-clause-stays
returns-clause-stays c = result_stays

pub returns-clause-same : goal.returns-clause-same
returns-clause-same c = result_same

pub returns-clause-untouched : goal.returns-clause-untouched
returns-clause-untouched c = result_untouched

pub returns-clause-removed : goal.returns-clause-removed
returns-clause-removed c = result_removed

pub returns-clause-only : goal.returns-clause-only
returns-clause-only c = result_comes
