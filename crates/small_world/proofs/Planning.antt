-- A line that steps the card ends the plan.
use Rattle.std.proofs.Common.{◌≡◌, Bool, true, false, cond, ◌∷◌, refl, ◌∙◌, sym, Option, None, Some}
use Rattle.std.specs.Prelude.{◌&&◌, is_some}
use Rattle.std.proofs.lemmas.Bool.{cond_both, and_parts, or_cases, false≢true}
use Rattle.std.proofs.Common.{inl, inr}
use Rattle.small_card.specs.declared.types.Command.{Command}
use Rattle.card_store.specs.Holding.{standing}
use Rattle.iot_schedule.specs.declared.types.Line.{Line}
use Rattle.iot_schedule.specs.declared.types.Line.TheVariants as line
use Rattle.small_world.specs.Lines.{acted}
use Rattle.small_world.specs.Runs.{given, is_boot, steps_card}
use Rattle.small_world.specs.Stepping.{lost_step, answered_step, commanded, woken, booted}
use Rattle.small_world.specs.Worlds.{SmallWorld}
use Rattle.small_world.proofs.Reaching.{command_reaches}

command_ends : (w : SmallWorld) (c : Command) (lost : Bool) → w.lit ≡ true → (commanded c lost w).plan ≡ None
unfolding commanded
command_ends w c lost l =
    cond_both w.lit (cond lost (lost_step c w) (answered_step c w)) w (λ (v : SmallWorld). v.plan ≡ None)
    (λ _. cond_both lost (lost_step c w) (answered_step c w) (λ (v : SmallWorld). v.plan ≡ None) (λ _. refl) (λ _. refl))
    (λ d. absurd (false≢true (sym d ∙ l)))

given_ends : (w : SmallWorld) (l : Line) (o : Option Command) (lost taken : Bool) → given w l ≡ o → w.lit ≡ true → is_some o ≡ true → (acted l lost taken w).plan ≡ None
given_ends w l None lost taken e k s = absurd (false≢true s)
given_ends w l (Some c) lost taken e k s = (command_reaches w l c lost taken e).plan ∙ command_ends w c lost k

boot_ends : (w : SmallWorld) (lost taken : Bool) → (acted line.Boot lost taken w).plan ≡ None
unfolding acted booted
boot_ends w lost taken =
    cond_both lost (record w { lit = false; plan = None })
    (record w { history = woken taken w; marks = standing (woken taken w) ∷ w.marks; lit = true; plan = None }) (λ (v : SmallWorld). v.plan ≡ None) (λ _. refl) (λ _. refl)

boots_end : (w : SmallWorld) (l : Line) (lost taken : Bool) → is_boot l ≡ true → (acted l lost taken w).plan ≡ None
boots_end w (line.Eim id) lost taken b = absurd (false≢true b)
boots_end w (line.Initial id address key) lost taken b = absurd (false≢true b)
boots_end w (line.Bind id association last) lost taken b = absurd (false≢true b)
boots_end w (line.Order id body) lost taken b = absurd (false≢true b)
boots_end w (line.Skip id) lost taken b = absurd (false≢true b)
boots_end w (line.Poll id) lost taken b = absurd (false≢true b)
boots_end w (line.Up pick) lost taken b = absurd (false≢true b)
boots_end w (line.Down pick good) lost taken b = absurd (false≢true b)
boots_end w (line.Load good bytes) lost taken b = absurd (false≢true b)
boots_end w line.Push lost taken b = absurd (false≢true b)
boots_end w (line.Probe passed) lost taken b = absurd (false≢true b)
boots_end w line.Rollback lost taken b = absurd (false≢true b)
boots_end w line.Restart lost taken b = absurd (false≢true b)
boots_end w (line.Cut calls tear) lost taken b = absurd (false≢true b)
boots_end w line.Boot lost taken b = boot_ends w lost taken
boots_end w line.Show lost taken b = absurd (false≢true b)
boots_end w (line.Kept id) lost taken b = absurd (false≢true b)
boots_end w (line.Detach at) lost taken b = absurd (false≢true b)
boots_end w line.Modems lost taken b = absurd (false≢true b)

pub step_ends : (w : SmallWorld) (l : Line) (lost taken : Bool) → steps_card w l ≡ true → (acted l lost taken w).plan ≡ None
unfolding steps_card
step_ends w l lost taken s = elim (or_cases (w.lit && is_some (given w l)) (is_boot l) s) [
  | inl a ↦ let p = and_parts w.lit (is_some (given w l)) a in given_ends w l (given w l) lost taken refl p.0 p.1
  | inr b ↦ boots_end w l lost taken b
]
