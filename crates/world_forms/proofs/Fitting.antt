-- Lines of a replay, one more or refused, and what a part of it says of them.
use Rattle.std.proofs.Common.{◌≡◌, ◌≢◌, ◌⊎◌, ℕ, inl, inr, List, [], ◌∷◌, ◌++◌, Option, Some, None, Result, Ok, Err, refl, ap, subst}
use Rattle.std.specs.Prelude.{OnOk}
use Rattle.iot_bytes.specs.Causes.{Rose}
use Rattle.card_store.specs.Looking.{HasCauseOf}
use Rattle.chip_port.specs.Seen.{Seen}
use Rattle.iot_schedule.specs.Devices.{device_at}
use Rattle.iot_schedule.specs.Steps.{step_at}
use Rattle.iot_world.specs.declared.world.World.{World}
use Rattle.line_loop.specs.Parts.{Stopping, Handles, HasStopped}
use Rattle.line_loop.specs.declared.halt.LineStop.{LineStop}
use Rattle.line_loop.specs.declared.halt.LineStop.TheVariants.{ChipFault, Malformed, Limit, Unrecognised, NoMemory}
use Rattle.modem_bank.specs.Modems.{Seen as ModemSeen}
use Rattle.schedule_forms.proofs.Fitting.{fit_push, unfit_push}
use Rattle.run_loop.specs.Parts.{Walk}
use Rattle.world_forms.specs.Handling.{Grows, IsReadAs}
use Rattle.world_forms.specs.Replays.{IsRefused, IsReplayed, IsUnbegun}
use Rattle.world_forms.specs.Walks.{Began, IsAt}

some_lines : (ls : List (List ℕ)) (l : List ℕ) → ls ++ l ∷ [] ≡ [] → ⊥
some_lines [] l is = absurd cc
some_lines (x ∷ xs) l is = absurd cc

-- a line that isn't malformed spells something, unless memory was wanting
spells_some : {X : Type 0} (T : Type 0) (read : Option X) (stop : LineStop) → IsReadAs {T = T} read (Err stop) → stop ≢ Malformed → stop ≢ NoMemory → read ≢ None
spells_some T read ChipFault is fit memory = is
spells_some T read Malformed is fit memory = absurd (fit refl)
spells_some T read Limit is fit memory = is
spells_some T read Unrecognised is fit memory = is
spells_some T read NoMemory is fit memory = absurd (memory refl)

pub spells_none : {X : Type 0} (T : Type 0) (read : Option X) (stop : LineStop) → IsReadAs {T = T} read (Err stop) → stop ≡ Malformed → read ≡ None
spells_none T read stop is at = subst (λ (z : LineStop). IsReadAs {T = T} read (Err z)) at is

-- the first line is in the grammar
pub began_first : (v : World) (s t u : Seen) (ls : List (List ℕ)) (l : List ℕ) → Began None s t ls → device_at l ≢ None → Began (Some v) s u (ls ++ l ∷ [])
began_first v s t u ls l b spells = record {
  fit = fit_push ls l b.fit (λ none. spells) (λ some. absurd (some (b.begun.0 refl)));
  begun = (λ is. absurd cc, λ none. absurd (some_lines ls l none));
  unbegun = λ is. absurd cc;
}

-- lines of a world are some
no_none : (v : World) (s t : Seen) (ls : List (List ℕ)) → Began (Some v) s t ls → ls ≢ []
no_none v s t ls b = λ none. let is = b.begun.1 none in absurd cc

-- and so is a further one
pub began_on : (v v' : World) (s t u : Seen) (ls : List (List ℕ)) (l : List ℕ) → Began (Some v) s t ls → step_at l ≢ None → Began (Some v') s u (ls ++ l ∷ [])
began_on v v' s t u ls l b spells = record {
  fit = fit_push ls l b.fit (λ none. absurd (no_none v s t ls b none)) (λ some. spells);
  begun = (λ is. absurd cc, λ none. absurd (some_lines ls l none));
  unbegun = λ is. absurd cc;
}

pub refused_first : (s t u : Seen) (ls : List (List ℕ)) (l : List ℕ) (stop : LineStop) → Began None s t ls → IsReadAs {T = World} (device_at l) (Err stop) → HasCauseOf {T = World} ChipFault t u (Err stop) → IsRefused s u ls l stop
refused_first s t u ls l stop b reads h = record {
  fit = b.fit;
  unfit = λ is fit. unfit_push ls l (λ none. spells_none World (device_at l) stop reads is) (λ some. absurd (some (b.begun.0 refl))) fit;
  fits = λ fit memory. fit_push ls l b.fit (λ none. spells_some World (device_at l) stop reads fit memory) (λ some. absurd (some (b.begun.0 refl)));
  cause = λ is. (b.begun.0 refl, subst (λ (n : ℕ). Rose n u.faults) (b.unbegun refl).faults (h.cause (ap (λ (z : LineStop). Err z) is)));
}

pub refused_on : (v : World) (s t u : Seen) (ls : List (List ℕ)) (l : List ℕ) (stop : LineStop) → Began (Some v) s t ls → IsReadAs {T = Unit {0}} (step_at l) (Err stop) → (stop ≡ ChipFault → ⊥) → IsRefused s u ls l stop
refused_on v s t u ls l stop b reads whole = record {
  fit = b.fit;
  unfit = λ is fit. unfit_push ls l (λ none. absurd (no_none v s t ls b none)) (λ some. spells_none (Unit {0}) (step_at l) stop reads is) fit;
  fits = λ fit memory. fit_push ls l b.fit (λ none. absurd (no_none v s t ls b none)) (λ some. spells_some (Unit {0}) (step_at l) stop reads fit memory);
  cause = λ is. absurd (whole is);
}

-- a part handled a line, or it stops at it, as its result says
pub handles_by : {S : Type 0} (behind : S → S → Walk) (stops : S → S → Stopping) (old new : S) (l before out : List ℕ) (result : Result (Unit {0}) LineStop) → OnOk result (Grows before out)
    → ((done : Unit {0}) → result ≡ Ok done → (text : List ℕ) → out ≡ before ++ text → (first : S) (ls : List (List ℕ)) (b : List ℕ) → behind first old ls b → behind first new (ls ++ l ∷ []) (b ++ text))
    → ((stop : LineStop) → result ≡ Err stop → HasStopped behind stops old new l stop) → Handles behind stops old new l before out result
handles_by behind stops old new l before out (Ok done) grows went halts = record { text = grows.0; appended = grows.1; stands = went done refl grows.0 grows.1 }
handles_by behind stops old new l before out (Err stop) grows went halts = halts stop refl

-- a run was made of the lines, if there is one
pub either : (world : Option World) (handed_in : List ModemSeen) (s t : Seen) (modems : List ModemSeen) (ls : List (List ℕ)) (text : List ℕ) → IsAt world handed_in s t modems ls text → IsUnbegun handed_in s t modems ls text ⊎ IsReplayed handed_in s t modems ls text
either None handed_in s t modems ls text at = inl at
either (Some v) handed_in s t modems ls text at = inr at.0
