-- Lines of a schedule, one more or fewer.
use Rattle.std.proofs.Common.{◌≡◌, ◌≢◌, ℕ, List, [], ◌∷◌, ◌++◌, None, refl, arith, length-append}
use Rattle.std.specs.List.{AllByRecursion}
use Rattle.line_loop.specs.Lines.{IsShort}
use Rattle.iot_schedule.specs.Devices.{device_at}
use Rattle.iot_schedule.specs.Steps.{step_at}
use Rattle.schedule_forms.specs.Grammar.{IsStepLine, AreInGrammar}
use Rattle.schedule_forms.specs.Schedules.{AreHandled}

all_push : {X : Type 0} (P : X → Type 0) (xs : List X) (x : X) → AllByRecursion P xs → P x → AllByRecursion P (xs ++ x ∷ [])
all_push P [] x all p = (p, tt)
all_push P (y ∷ ys) x all p = (all.0, all_push P ys x all.1 p)

all_last : {X : Type 0} (P : X → Type 0) (xs : List X) (x : X) → AllByRecursion P (xs ++ x ∷ []) → P x
all_last P [] x all = all.0
all_last P (y ∷ ys) x all = all_last P ys x all.1

all_front : {X : Type 0} (P : X → Type 0) (xs ys : List X) → AllByRecursion P (xs ++ ys) → AllByRecursion P xs
all_front P [] ys all = tt
all_front P (x ∷ xs) ys all = (all.0, all_front P xs ys all.1)

pub short_last : (ls : List (List ℕ)) (l : List ℕ) → AllByRecursion IsShort (ls ++ l ∷ []) → IsShort l
short_last ls l all = all_last IsShort ls l all

pub fit_push : (ls : List (List ℕ)) (l : List ℕ) → AreInGrammar ls → (ls ≡ [] → device_at l ≢ None) → (ls ≢ [] → step_at l ≢ None) → AreInGrammar (ls ++ l ∷ [])
fit_push [] l fit first later = (first refl, tt)
fit_push (x ∷ xs) l fit first later = (fit.0, all_push IsStepLine xs l fit.1 (later (λ no. absurd cc)))

pub unfit_push : (ls : List (List ℕ)) (l : List ℕ) → (ls ≡ [] → device_at l ≡ None) → (ls ≢ [] → step_at l ≡ None) → AreInGrammar (ls ++ l ∷ []) → ⊥
unfit_push [] l first later fit = fit.0 (first refl)
unfit_push (x ∷ xs) l first later fit = all_last IsStepLine xs l fit.1 (later (λ no. absurd cc))

pub fit_front : (ls ms : List (List ℕ)) → AreInGrammar (ls ++ ms) → AreInGrammar ls
fit_front [] ms fit = tt
fit_front (x ∷ xs) ms fit = (fit.0, all_front IsStepLine xs ms fit.1)

-- the first of lines that are handled are handled
pub handled_front : (ls ms : List (List ℕ)) → AreHandled (ls ++ ms) → AreHandled ls
handled_front ls ms h = record {
  few = omega (arith, h.few, length-append ls ms);
  short = all_front IsShort ls ms h.short;
  fit = fit_front ls ms h.fit;
}
