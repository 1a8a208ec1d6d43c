-- A unit that stands in the history stays, whatever lines follow.
use Rattle.std.proofs.Common.{◌≡◌, inl, inr, Bool, true, false, cond, List, ◌∷◌, Option, None, Some}
use Rattle.std.proofs.lemmas.Bool.{cond_both}
use Rattle.small_card.specs.Histories.{History, with_unit}
use Rattle.small_card.specs.Units.{CardUnit}
use Rattle.small_card.specs.declared.types.Command.{Command}
use Rattle.package_codec.specs.Replies.{grown, after, unit_of}
use Rattle.card_store.specs.Holding.{Mark, standing}
use Rattle.small_world.specs.Has.{Has}
use Rattle.small_world.specs.Runs.{Turn, world_after}
use Rattle.small_world.specs.Stepping.{attempt, lost_step, answered_step, commanded, woken, booted}
use Rattle.small_world.specs.Worlds.{SmallWorld}
use Rattle.small_world.proofs.Marking.{Of, run_steps}

grown_has : (h : History) (o : Option CardUnit) (u : CardUnit) → Has u h.units → Has u (grown o h).units
unfolding with_unit
grown_has h None u i = i
grown_has h (Some v) u i = inr i

-- the history has the unit
abbrev pub Stood : CardUnit → History → List Mark → Bool → Type 0
Stood u h ms lit = Has u h.units

command_stood : (u : CardUnit) (v : SmallWorld) (c : Command) (lost : Bool) → Of (Stood u) v → Of (Stood u) (commanded c lost v)
unfolding commanded after
command_stood u v c lost i =
    cond_both v.lit (cond lost (lost_step c v) (answered_step c v)) v (Of (Stood u))
    (λ _. cond_both lost (lost_step c v) (answered_step c v) (Of (Stood u)) (λ _. i) (λ _. grown_has v.history (unit_of v.history c) u i))
    (λ _. i)

boot_stood : (u : CardUnit) (v : SmallWorld) (lost taken : Bool) → Of (Stood u) v → Of (Stood u) (booted lost taken v)
unfolding booted
boot_stood u v lost taken i =
    cond_both lost (record v { lit = false; plan = None })
    (record v { history = woken taken v; marks = standing (woken taken v) ∷ v.marks; lit = true; plan = None }) (Of (Stood u))
    (λ _. i)
    (λ _. cond_both taken (grown (attempt v.marks) v.history) v.history (λ h. Has u h.units) (λ _. grown_has v.history (attempt v.marks) u i) (λ _. i))

pub units_stay : (w : SmallWorld) (ts : List Turn) (u : CardUnit) → Has u w.history.units → Has u (world_after w ts).history.units
units_stay w ts u i = run_steps (Stood u) w ts (record { command = command_stood u; boot = boot_stood u }) i

grown_new : (h : History) (o : Option CardUnit) (u : CardUnit) → o ≡ Some u → Has u (grown o h).units
unfolding with_unit
grown_new h None u e = absurd (cc)
grown_new h (Some v) u e = let is : v ≡ u = cc in inl is

-- a boot that took the attempt has it in its history
pub taken_stands : (w : SmallWorld) (u : CardUnit) → attempt w.marks ≡ Some u → Has u (booted false true w).history.units
unfolding booted
taken_stands w u e = grown_new w.history (attempt w.marks) u e
