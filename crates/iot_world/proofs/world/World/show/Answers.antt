use Rattle.iot_world.proofs.Showing.{shown_lit, shown_dark}
use Rattle.iot_world.proofs.world.World.show.Goals as goal

pub returns-in-Some : goal.returns-in-Some
returns-in-Some c = record { shows = λ w network held. shown_lit w c.in-Some.card.now _ c.show_parts.result _ _ _ network held c.in-Some.ensures.parts c.show_parts.ensures }

pub returns-in-None : goal.returns-in-None
returns-in-None c = record { shows = λ w network held. shown_dark w _ c.put_word.result _ _ _ network held c.in-None.ensures.parts c.put_word.ensures }
