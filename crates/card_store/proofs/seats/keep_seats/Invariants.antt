use Rattle.card_store.specs.Seats.{Keeping}
use Rattle.card_store.proofs.seats.keep_seats.Given as goal

abbrev pub invariant-loop-index : goal.invariant-loop-index
invariant-loop-index l = Keeping l.numbers l.pending l.index l.seats
