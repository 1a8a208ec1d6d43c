use Rattle.small_world.specs.Texts.{said}
use Rattle.world_text.proofs.replies.put_said.Goals as goal

pub returns-in-Loaded-clause-ok : goal.returns-in-Loaded-clause-ok
returns-in-Loaded-clause-ok c = λ command same. rw c.in-Loaded.is (c.put_loaded.ensures.ok command)

pub returns-in-Associated-clause-ok : goal.returns-in-Associated-clause-ok
unfolding said
returns-in-Associated-clause-ok c = λ command same. rw c.in-Associated.is (rw c.from-in-Associated.ensures at c.put_number-in-Associated.ensures.ok)

pub returns-in-InitialRefused-clause-ok : goal.returns-in-InitialRefused-clause-ok
unfolding said
returns-in-InitialRefused-clause-ok c = λ command same. rw c.in-InitialRefused.is (rw c.from-in-InitialRefused.ensures at c.put_number-in-InitialRefused.ensures.ok)
