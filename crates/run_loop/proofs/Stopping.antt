-- Where neither the source nor the sink fails, a run ends where its input stops, with the status of the reason.
use Rattle.std.specs.Prelude.{◌⊎◌}
use Rattle.std.proofs.Common.{◌≡◌, ℕ, ◌≤◌, ◌<◌, inl, inr, List, [], ◌++◌, length, Option, Some, Result, Ok, Err, refl, ap, sym, subst, ◌∙◌, append-nil}
use Rattle.std.specs.List.{AllByRecursion}
use Rattle.iot_bytes.specs.Causes.{Rose}
use Rattle.iot_bytes.specs.Frames.{IsTorn}
use Rattle.run_loop.specs.declared.halt.ReadStop.TheVariants as reading
use Rattle.run_loop.specs.declared.halt.PartStop.{PartStop}
use Rattle.run_loop.specs.declared.halt.SendStop.{SendStop}
use Rattle.run_loop.specs.declared.halt.SendStop.TheVariants as sending
use Rattle.run_loop.specs.declared.halt.Halt.{Halt}
use Rattle.run_loop.specs.declared.halt.Halt.TheVariants.{Reading, Answering, Sending}
use Rattle.run_loop.specs.declared.halt.RunEnd.{RunEnd}
use Rattle.run_loop.specs.declared.reading.TheConstants.{MOST_FRAMES}
use Rattle.run_loop.specs.Breaks.{PassesLimit, IsUnfit}
use Rattle.run_loop.specs.Edges.{Edge}
use Rattle.run_loop.specs.Frames.{framed, IsShort}
use Rattle.run_loop.specs.Parts.{Walk, Stopping}
use Rattle.run_loop.specs.Runs.{Reason, Ended}
use Rattle.run_loop.specs.Status.{part_status, halt_status, exit_status}
use Rattle.run_loop.proofs.Breaking.{IsForm, Breaks, one_place, never_breaks, torn_or_limit, torn_or_unfit, limit_or_unfit, breaks_there}

-- why a run with memory ended behind these frames, by its status; that of an unfit frame is given
unfoldable pub HaltsBy : ℕ → (List (List ℕ) → List ℕ → Type 0) → ℕ → List (List ℕ) → List ℕ → Type 0
HaltsBy n Unfit status gs u = ((status ≡ 0) × (u ≡ [])) ⊎ ((status ≡ 5) × IsTorn u) ⊎ ((status ≡ 7) × PassesLimit gs u) ⊎ ((status ≡ n) × IsUnfit Unfit gs u)

-- a run ended with this status
pub record HasEnded (n : ℕ) (Handled : List (List ℕ) → Type 0) (Unfit : List (List ℕ) → List ℕ → Type 0) (status : ℕ) (input : List ℕ) : Type 0 where
  pub frames : List (List ℕ)
  pub tail : List ℕ
  pub parts : input ≡ framed frames ++ tail
  pub handled : Handled frames
  pub reason : HaltsBy n Unfit status frames tail

-- why no more frames were answered
halted : (n : ℕ) (Handled : List (List ℕ) → Type 0) (Unfit : List (List ℕ) → List ℕ → Type 0) (walk : Walk) (stops : Stopping)
    → ((fs : List (List ℕ)) (text : List ℕ) → walk fs text → length fs ≤ MOST_FRAMES → AllByRecursion IsShort fs → Handled fs)
    → ((fs : List (List ℕ)) (text f : List ℕ) (stop : PartStop) → stops fs text f stop → length fs < MOST_FRAMES → AllByRecursion IsShort fs → (part_status stop ≡ 6) ⊎ ((part_status stop ≡ n) × Handled fs × Unfit fs f))
    → (rest0 rest : Option (List ℕ)) (input : List ℕ) (gs : List (List ℕ)) (text : List ℕ) (halt : Halt) → rest0 ≡ Some input → length gs ≤ MOST_FRAMES → Reason walk stops rest0 rest gs text halt
    → (halt ≡ Reading reading.Fault → ⊥) → (halt ≡ Sending → ⊥) → (halt_status halt ≡ 6) ⊎ HasEnded n Handled Unfit (halt_status halt) input
unfolding HaltsBy
halted n Handled Unfit walk stops goes stands rest0 rest input gs text (Reading reading.End) told few r no_read no_write =
    let (tail, parts, short, at) = r.1 input told in
    inr (record { frames = gs; tail = tail; parts = parts; handled = goes gs text r.0 few short; reason = inl (refl, at.0) })
halted n Handled Unfit walk stops goes stands rest0 rest input gs text (Reading reading.Fault) told few r no_read no_write = absurd (no_read refl)
halted n Handled Unfit walk stops goes stands rest0 rest input gs text (Reading reading.Torn) told few r no_read no_write =
    let (tail, parts, short, at) = r.1 input told in
    inr (record { frames = gs; tail = tail; parts = parts; handled = goes gs text r.0 few short; reason = inr (inl (refl, at.0)) })
halted n Handled Unfit walk stops goes stands rest0 rest input gs text (Reading reading.Limit) told few r no_read no_write =
    let (tail, parts, short, at) = r.1 input told in
    inr (record {
      frames = gs;
      tail = tail;
      parts = parts;
      handled = goes gs text r.0 few short;
      reason = inr (inr (inl (
        refl,
        elim at [
          | inl over ↦ inl (record { head = over.head; over = over.over })
          | inr more ↦ inr (more.0, record { first = more.1.0; rest = more.1.1.rest; parts = more.1.1.parts; short = more.1.1.short })
        ],
      )));
    })
halted n Handled Unfit walk stops goes stands rest0 rest input gs text (Reading reading.NoMemory) told few r no_read no_write = inl refl
halted n Handled Unfit walk stops goes stands rest0 rest input gs text (Answering stop) told few r no_read no_write =
    let (tail, parts, short, at) = r.2 input told in
    elim (stands gs text r.0 stop r.1 r.3 short) [
      | inl six ↦ inl six
      | inr none ↦
          inr (record {
            frames = gs;
            tail = tail;
            parts = parts;
            handled = none.1;
            reason = inr (inr (inr (none.0, record { found = record { first = r.0; rest = at.rest; parts = at.parts; short = at.short }; unfit = none.2 })));
          })
    ]
halted n Handled Unfit walk stops goes stands rest0 rest input gs text Sending told few r no_read no_write = absurd (no_write refl)

closes : (n : ℕ) (Handled : List (List ℕ) → Type 0) (Unfit : List (List ℕ) → List ℕ → Type 0) (halt : Halt) (closing : Result (Unit {0}) SendStop) (input : List ℕ)
    → (halt_status halt ≡ 6) ⊎ HasEnded n Handled Unfit (halt_status halt) input → (closing ≡ Err sending.Fault → ⊥) → (exit_status halt closing ≡ 6) ⊎ HasEnded n Handled Unfit (exit_status halt closing) input
closes n Handled Unfit halt (Ok done) input e no_write = e
closes n Handled Unfit halt (Err sending.Fault) input e no_write = absurd (no_write refl)
closes n Handled Unfit halt (Err sending.NoMemory) input e no_write = inl refl

-- how a run ended where neither the source nor the sink failed
pub has_ended : (n : ℕ) (Handled : List (List ℕ) → Type 0) (Unfit : List (List ℕ) → List ℕ → Type 0) (walk : Walk) (stops : Stopping)
    → ((fs : List (List ℕ)) (text : List ℕ) → walk fs text → length fs ≤ MOST_FRAMES → AllByRecursion IsShort fs → Handled fs)
    → ((fs : List (List ℕ)) (text f : List ℕ) (stop : PartStop) → stops fs text f stop → length fs < MOST_FRAMES → AllByRecursion IsShort fs → (part_status stop ≡ 6) ⊎ ((part_status stop ≡ n) × Handled fs × Unfit fs f))
    → (status : ℕ) (old new : Edge) (end : RunEnd) (input : List ℕ) → status ≡ exit_status end.halt end.closing → Ended walk stops old new end → old.rest ≡ Some input
    → (Rose old.read_faults new.read_faults → ⊥) → (Rose old.write_faults new.write_faults → ⊥) → (status ≡ 6) ⊎ HasEnded n Handled Unfit status input
has_ended n Handled Unfit walk stops goes stands status old new end input says e told no_read no_write =
    let before = halted n Handled Unfit walk stops goes stands old.rest new.rest input e.frames e.text end.halt told e.few e.reason (λ at. no_read (e.causes.read at)) (λ at. no_write (e.causes.write (inl at))) in
    subst (λ (m : ℕ). (m ≡ 6) ⊎ HasEnded n Handled Unfit m input) (sym says) (closes n Handled Unfit end.halt end.closing input before (λ at. no_write (e.causes.write (inr at))))

breaks_of : (n : ℕ) (Unfit : List (List ℕ) → List ℕ → Type 0) (status : ℕ) (gs : List (List ℕ)) (u : List ℕ) → HaltsBy n Unfit status gs u → ((status ≡ 0) × (u ≡ [])) ⊎ Breaks Unfit gs u
unfolding HaltsBy
breaks_of n Unfit status gs u (inl done) = inl done
breaks_of n Unfit status gs u (inr (inl torn)) = inr (inl torn.1)
breaks_of n Unfit status gs u (inr (inr (inl past))) = inr (inr (inl past.1))
breaks_of n Unfit status gs u (inr (inr (inr unfit))) = inr (inr (inr unfit.1))

-- frames that are handled are answered to their end
pub complete : (n : ℕ) (Handled : List (List ℕ) → Type 0) (Unfit : List (List ℕ) → List ℕ → Type 0) → IsForm Handled Unfit
    → (status : ℕ) (input : List ℕ) (fs : List (List ℕ)) → (status ≡ 6) ⊎ HasEnded n Handled Unfit status input → input ≡ framed fs → Handled fs → (status ≡ 0) ⊎ (status ≡ 6)
complete n Handled Unfit form status input fs (inl six) is handled = inr six
complete n Handled Unfit form status input fs (inr e) is handled =
    elim (breaks_of n Unfit status e.frames e.tail e.reason) [
      | inl done ↦ inl done.0
      | inr breaks ↦ absurd (never_breaks Handled Unfit form fs e.frames e.tail handled e.handled (sym is ∙ e.parts) breaks)
    ]

-- the run ended where the input stops, for its reason
same_place : (n : ℕ) (Handled : List (List ℕ) → Type 0) (Unfit : List (List ℕ) → List ℕ → Type 0) → IsForm Handled Unfit
    → (status : ℕ) (input : List ℕ) (fs : List (List ℕ)) (t : List ℕ) → HasEnded n Handled Unfit status input → input ≡ framed fs ++ t → Handled fs → Breaks Unfit fs t → HaltsBy n Unfit status fs t
same_place n Handled Unfit form status input fs t e is handled breaks =
    elim (breaks_of n Unfit status e.frames e.tail e.reason) [
      | inl done ↦
          let whole : input ≡ framed e.frames = e.parts ∙ ap (λ (z : List ℕ). framed e.frames ++ z) done.1 ∙ append-nil (framed e.frames) in
          absurd (never_breaks Handled Unfit form e.frames fs t e.handled handled (sym whole ∙ is) breaks)
      | inr others ↦
          let place = one_place Handled Unfit form input fs e.frames t e.tail is e.parts handled e.handled breaks others in
          subst (λ (m : List (List ℕ)). HaltsBy n Unfit status m t) (sym place.0) (subst (λ (z : List ℕ). HaltsBy n Unfit status e.frames z) (sym place.1) e.reason)
    ]

ended_at : (n : ℕ) (Handled : List (List ℕ) → Type 0) (Unfit : List (List ℕ) → List ℕ → Type 0) → IsForm Handled Unfit
    → (status : ℕ) (input : List ℕ) (fs : List (List ℕ)) (t : List ℕ) → (status ≡ 6) ⊎ HasEnded n Handled Unfit status input → input ≡ framed fs ++ t → Handled fs → Breaks Unfit fs t → (status ≡ 6) ⊎ HaltsBy n Unfit status fs t
ended_at n Handled Unfit form status input fs t (inl six) is handled breaks = inl six
ended_at n Handled Unfit form status input fs t (inr e) is handled breaks = inr (same_place n Handled Unfit form status input fs t e is handled breaks)

by_torn : (n : ℕ) (Unfit : List (List ℕ) → List ℕ → Type 0) (status : ℕ) (fs : List (List ℕ)) (t : List ℕ) → IsTorn t → (status ≡ 6) ⊎ HaltsBy n Unfit status fs t → (status ≡ 5) ⊎ (status ≡ 6)
unfolding HaltsBy
by_torn n Unfit status fs t torn (inl e) = inr e
by_torn n Unfit status fs t torn (inr (inl done)) = absurd (breaks_there Unfit fs t done.1 (inl torn))
by_torn n Unfit status fs t torn (inr (inr (inl five))) = inl five.0
by_torn n Unfit status fs t torn (inr (inr (inr (inl seven)))) = absurd (torn_or_limit fs t torn seven.1)
by_torn n Unfit status fs t torn (inr (inr (inr (inr unfit)))) = absurd (torn_or_unfit Unfit fs t torn unfit.1)

by_limit : (n : ℕ) (Handled : List (List ℕ) → Type 0) (Unfit : List (List ℕ) → List ℕ → Type 0) → IsForm Handled Unfit
    → (status : ℕ) (fs : List (List ℕ)) (t : List ℕ) → PassesLimit fs t → (status ≡ 6) ⊎ HaltsBy n Unfit status fs t → (status ≡ 7) ⊎ (status ≡ 6)
unfolding HaltsBy
by_limit n Handled Unfit form status fs t past (inl e) = inr e
by_limit n Handled Unfit form status fs t past (inr (inl done)) = absurd (breaks_there Unfit fs t done.1 (inr (inl past)))
by_limit n Handled Unfit form status fs t past (inr (inr (inl five))) = absurd (torn_or_limit fs t five.1 past)
by_limit n Handled Unfit form status fs t past (inr (inr (inr (inl seven)))) = inl seven.0
by_limit n Handled Unfit form status fs t past (inr (inr (inr (inr unfit)))) = absurd (limit_or_unfit Handled Unfit form fs t past unfit.1)

by_unfit : (n : ℕ) (Handled : List (List ℕ) → Type 0) (Unfit : List (List ℕ) → List ℕ → Type 0) → IsForm Handled Unfit
    → (status : ℕ) (fs : List (List ℕ)) (t : List ℕ) → IsUnfit Unfit fs t → (status ≡ 6) ⊎ HaltsBy n Unfit status fs t → (status ≡ n) ⊎ (status ≡ 6)
unfolding HaltsBy
by_unfit n Handled Unfit form status fs t unfit (inl e) = inr e
by_unfit n Handled Unfit form status fs t unfit (inr (inl done)) = absurd (breaks_there Unfit fs t done.1 (inr (inr unfit)))
by_unfit n Handled Unfit form status fs t unfit (inr (inr (inl five))) = absurd (torn_or_unfit Unfit fs t five.1 unfit)
by_unfit n Handled Unfit form status fs t unfit (inr (inr (inr (inl seven)))) = absurd (limit_or_unfit Handled Unfit form fs t seven.1 unfit)
by_unfit n Handled Unfit form status fs t unfit (inr (inr (inr (inr last)))) = inl last.0

-- an input that stops behind handled frames ends the run with the status of its reason
pub stops_torn : (n : ℕ) (Handled : List (List ℕ) → Type 0) (Unfit : List (List ℕ) → List ℕ → Type 0) → IsForm Handled Unfit
    → (status : ℕ) (input : List ℕ) (fs : List (List ℕ)) (t : List ℕ) → (status ≡ 6) ⊎ HasEnded n Handled Unfit status input → input ≡ framed fs ++ t → Handled fs → IsTorn t → (status ≡ 5) ⊎ (status ≡ 6)
stops_torn n Handled Unfit form status input fs t e is handled torn = by_torn n Unfit status fs t torn (ended_at n Handled Unfit form status input fs t e is handled (inl torn))

pub stops_limit : (n : ℕ) (Handled : List (List ℕ) → Type 0) (Unfit : List (List ℕ) → List ℕ → Type 0) → IsForm Handled Unfit
    → (status : ℕ) (input : List ℕ) (fs : List (List ℕ)) (t : List ℕ) → (status ≡ 6) ⊎ HasEnded n Handled Unfit status input → input ≡ framed fs ++ t → Handled fs → PassesLimit fs t → (status ≡ 7) ⊎ (status ≡ 6)
stops_limit n Handled Unfit form status input fs t e is handled past = by_limit n Handled Unfit form status fs t past (ended_at n Handled Unfit form status input fs t e is handled (inr (inl past)))

pub stops_unfit : (n : ℕ) (Handled : List (List ℕ) → Type 0) (Unfit : List (List ℕ) → List ℕ → Type 0) → IsForm Handled Unfit
    → (status : ℕ) (input : List ℕ) (fs : List (List ℕ)) (t : List ℕ) → (status ≡ 6) ⊎ HasEnded n Handled Unfit status input → input ≡ framed fs ++ t → Handled fs → IsUnfit Unfit fs t → (status ≡ n) ⊎ (status ≡ 6)
stops_unfit n Handled Unfit form status input fs t e is handled unfit = by_unfit n Handled Unfit form status fs t unfit (ended_at n Handled Unfit form status input fs t e is handled (inr (inr unfit)))
