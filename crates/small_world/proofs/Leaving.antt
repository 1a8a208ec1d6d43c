-- Which choices a line leaves.
use Rattle.std.proofs.Common.{◌≡◌, Bool, true, false, ◌∷◌, refl, ◌∙◌, ap, sym, None}
use Rattle.std.specs.Prelude.{◌&&◌}
use Rattle.std.proofs.lemmas.Bool.{cond_both, and_parts, or_right, false≢true, false_from_ne_true}
use Rattle.chip_port.specs.Seen.{is_due}
use Rattle.package_codec.specs.Replies.{grown}
use Rattle.card_store.specs.Holding.{standing}
use Rattle.iot_schedule.specs.declared.types.Line.{Line}
use Rattle.small_world.specs.Runs.{Turn, is_boot, steps_card, MayTurn}
use Rattle.small_world.specs.Stepping.{attempt, woken, booted}
use Rattle.small_world.specs.Worlds.{SmallWorld}

-- a line is lost where the plan is due and the line steps the card
pub some_turn : (w : SmallWorld) (l : Line) → (t : Turn) × (t.line ≡ l) × MayTurn w t
some_turn w l =
    let due : Bool = is_due w.plan in
    let steps : Bool = steps_card w l in (
      record { line = l; lost = due && steps; taken = false },
      refl,
      record {
        lost = λ e. (and_parts due steps e).1;
        due = λ d s. rw (d, s) refl;
        taken = λ e. absurd (false≢true e);
      },
    )

pub boots_step : (w : SmallWorld) (l : Line) → is_boot l ≡ true → steps_card w l ≡ true
unfolding steps_card
boots_step w l e = or_right _ (is_boot l) e

pub no_choice : (w : SmallWorld) (t : Turn) → MayTurn w t → steps_card w t.line ≡ false → (t.lost ≡ false) × (t.taken ≡ false)
no_choice w t m e = (
  false_from_ne_true t.lost (λ k. false≢true (sym e ∙ m.lost k)),
  false_from_ne_true t.taken (λ k. false≢true (sym e ∙ boots_step w t.line (m.taken k).boot)),
)

lit_woken : (w : SmallWorld) (taken : Bool) → attempt w.marks ≡ None → woken taken w ≡ w.history
lit_woken w taken e = cond_both taken (grown (attempt w.marks) w.history) w.history (λ h. h ≡ w.history) (λ _. ap (λ o. grown o w.history) e) (λ _. refl)

-- where nothing is in progress, a boot changes no unit
pub lit_boot : (w : SmallWorld) (lost taken : Bool) → attempt w.marks ≡ None → (booted lost taken w).history ≡ w.history
unfolding booted
lit_boot w lost taken e =
    cond_both lost (record w { lit = false; plan = None })
    (record w { history = woken taken w; marks = standing (woken taken w) ∷ w.marks; lit = true; plan = None }) (λ (v : SmallWorld). v.history ≡ w.history)
    (λ _. refl) (λ _. lit_woken w taken e)
