use Rattle.std.proofs.Common.{sym, arith}
use Rattle.card_store.proofs.Gone.{lowest_is, some_free}
use Rattle.card_store.proofs.seats.lowest_free.Goals as goal

pub returns-in-Some-clause-within : goal.returns-in-Some-clause-within
returns-in-Some-clause-within c = omega (arith, (lowest_is c.args.seats.now c.in-Some.slot (sym c.in-Some.ensures)).within, c.told-seats)

pub returns-in-Some-clause-free : goal.returns-in-Some-clause-free
returns-in-Some-clause-free c = (lowest_is c.args.seats.now c.in-Some.slot (sym c.in-Some.ensures)).free

pub returns-in-Some-clause-lower : goal.returns-in-Some-clause-lower
returns-in-Some-clause-lower c = (lowest_is c.args.seats.now c.in-Some.slot (sym c.in-Some.ensures)).lower

pub returns-in-None-clause-free : goal.returns-in-None-clause-free
returns-in-None-clause-free c = absurd (some_free c.args.seats.now c.told-seats c.requires (sym c.in-None.ensures))
