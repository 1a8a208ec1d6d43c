use Rattle.std.proofs.Common.{length, subst}
use Rattle.small_world.specs.Worlds.{start_world}
use Rattle.small_world.proofs.Counting.{start_marks, stretches_length}
use Rattle.small_world.proofs.Marking.{Newest}
use Rattle.small_world.proofs.Reached.{reached_marked}
use Rattle.small_world.proofs.laws.marks_tell_the_history.Goals as goal

pub returns-clause-newest : goal.returns-clause-newest
returns-clause-newest c = λ w m older r e. subst (λ ms. Newest ms (length w.history.units)) e (reached_marked w r).newest

pub returns-clause-rests : goal.returns-clause-rests
returns-clause-rests c = λ w r l. (reached_marked w r).rests l

pub returns-clause-stretches : goal.returns-clause-stretches
returns-clause-stretches c = λ d handed_in ts. stretches_length (start_world d handed_in) ts (start_marks d handed_in)
