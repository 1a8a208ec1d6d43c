use Rattle.card_store.specs.Seats.{Filling}
use Rattle.card_store.proofs.seats.arrange.Given as goal

abbrev pub invariant-loop-index : goal.invariant-loop-index
invariant-loop-index l = Filling l.numbers l.pending l.index l.seats
