-- What holds of each world that a run comes to.
use Rattle.std.proofs.Common.{◌≡◌, true, List, [], ◌∷◌, refl, ap, sym, subst, Some}
use Rattle.small_card.specs.Legal.{May}
use Rattle.small_card.specs.Lists.{Every}
use Rattle.small_card.specs.Units.{CardUnit}
use Rattle.iot_schedule.specs.Ranges.{IsDevice, IsStep}
use Rattle.iot_schedule.specs.declared.types.Device.{Device}
use Rattle.modem_bank.specs.Modems.{Seen}
use Rattle.small_world.specs.Runs.{Turn, after_turn, world_after, AreSteps, IsReached}
use Rattle.small_world.specs.Stepping.{attempt}
use Rattle.small_world.specs.Worlds.{SmallWorld, enabled_after, start_world}
use Rattle.small_world.proofs.Choosing.{attempt_may}
use Rattle.small_world.proofs.Invariant.{KeepsWorld}
use Rattle.small_world.proofs.Marking.{IsMarked, Of, run_marked}
use Rattle.small_world.proofs.Running.{run_keeps, run_tried}
use Rattle.small_world.proofs.Showing.{Shows, run_shows}

pub run_begins : (d : Device) (handed_in : List Seen) → IsDevice d → IsReached (start_world d handed_in)
unfolding world_after AreSteps
run_begins d handed_in i = record { device = d; handed_in = handed_in; turns = []; fits = i; read = tt; comes = refl }

pub run_goes_on : (w : SmallWorld) (t : Turn) → IsReached w → IsStep t.line → IsReached (after_turn w t)
unfolding world_after AreSteps
run_goes_on w t r i = record { device = r.device; handed_in = r.handed_in; turns = t ∷ r.turns; fits = r.fits; read = (i, r.read); comes = ap (λ v. after_turn v t) r.comes }

pub reached_keeps : (w : SmallWorld) → IsReached w → KeepsWorld w
reached_keeps w r = subst KeepsWorld (sym r.comes) (run_keeps r.device r.handed_in r.turns r.fits r.read)

pub reached_marked : (w : SmallWorld) → IsReached w → Of IsMarked w
reached_marked w r = subst (Of IsMarked) (sym r.comes) (run_marked r.device r.handed_in r.turns)

pub reached_may : (w : SmallWorld) (u : CardUnit) → IsReached w → attempt w.marks ≡ Some u → May w.history u
reached_may w u r e = attempt_may w.history (attempt w.marks) u e (run_tried w (reached_keeps w r))

pub reached_shows : (w : SmallWorld) → IsReached w → w.lit ≡ true → Every (Shows (enabled_after w.history)) w.modems
reached_shows w r = subst (λ (v : SmallWorld). v.lit ≡ true → Every (Shows (enabled_after v.history)) v.modems) (sym r.comes) (run_shows r.device r.handed_in r.turns)
