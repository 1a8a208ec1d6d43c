use Rattle.small_world.proofs.Choosing.{with_differs, with_numbers, with_image}
use Rattle.small_world.proofs.Leaving.{lit_boot}
use Rattle.small_world.proofs.Reached.{reached_keeps, reached_may, reached_marked}
use Rattle.small_world.proofs.laws.boots_show_one_card.Goals as goal

pub returns-clause-full : goal.returns-clause-full
returns-clause-full c = λ w u r e. with_differs w.history u (reached_keeps w r).legal (reached_may w u r e)

pub returns-clause-numbers : goal.returns-clause-numbers
returns-clause-numbers c = λ w u r e. with_numbers w.history u (reached_keeps w r).legal (reached_may w u r e)

pub returns-clause-image : goal.returns-clause-image
returns-clause-image c = λ w u image r e. with_image w.history u image (reached_keeps w r).legal (reached_may w u r e)

pub returns-clause-lit : goal.returns-clause-lit
returns-clause-lit c = λ w lost taken r l. lit_boot w lost taken ((reached_marked w r).rests l)
