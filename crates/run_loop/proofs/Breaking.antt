-- What can't be handled stands at one place of an input.
use Rattle.std.specs.Prelude.{◌⊎◌}
use Rattle.std.proofs.Common.{◌≡◌, ℕ, ◌+◌, ◌≤◌, ◌<◌, inl, inr, List, [], ◌∷◌, ◌++◌, length, refl, ap, sym, subst, ◌∙◌, append_assoc, append-nil, length-append, arith}
use Rattle.std.specs.List.{AllByRecursion}
use Rattle.iot_bytes.specs.Frames.{frame, IsTorn}
use Rattle.iot_bytes.proofs.FrameEnds.{announced-frame, frames_split}
use Rattle.run_loop.specs.declared.reading.TheConstants.{MOST_FRAMES}
use Rattle.run_loop.specs.Breaks.{IsOverLimit, PassesLimit, IsUnfit}
use Rattle.run_loop.specs.Frames.{framed, IsShort}

-- frames that are handled are within the limits, and none of them is unfit behind those before it
pub record IsForm (Handled : List (List ℕ) → Type 0) (Unfit : List (List ℕ) → List ℕ → Type 0) : Type 0 where
  pub few : (fs : List (List ℕ)) → Handled fs → length fs ≤ MOST_FRAMES
  pub short : (fs : List (List ℕ)) → Handled fs → AllByRecursion IsShort fs
  pub below : (fs : List (List ℕ)) (f : List ℕ) → Unfit fs f → length fs < MOST_FRAMES
  pub fits : (fs : List (List ℕ)) (f : List ℕ) (ms : List (List ℕ)) → Handled (fs ++ f ∷ ms) → Unfit fs f → ⊥

-- behind these frames no frame can be handled: the input ends inside one, one passes a limit, or is unfit
abbrev pub Breaks : (List (List ℕ) → List ℕ → Type 0) → List (List ℕ) → List ℕ → Type 0
Breaks Unfit fs tail = IsTorn tail ⊎ PassesLimit fs tail ⊎ IsUnfit Unfit fs tail

long_enough : (f rest : List ℕ) → 4 + length f ≤ length (frame f ++ rest)
long_enough f rest = omega (arith, length-append f rest)

not_torn : (f rest : List ℕ) → IsShort f → IsTorn (frame f ++ rest) → ⊥
not_torn f rest few (some, inl low) = omega (arith, long_enough f rest)
not_torn f rest few (some, inr (small, low)) = omega (arith, long_enough f rest, announced-frame f rest few)

not_over : (f rest : List ℕ) → IsShort f → IsOverLimit (frame f ++ rest) → ⊥
not_over f rest few over = omega (arith, over.over, announced-frame f rest few)

-- nothing stands behind the last frame
not_empty : (Unfit : List (List ℕ) → List ℕ → Type 0) (fs : List (List ℕ)) (t : List ℕ) → length t ≡ 0 → Breaks Unfit fs t → ⊥
not_empty Unfit fs t none (inl torn) = omega (arith, torn.0, none)
not_empty Unfit fs t none (inr (inl (inl over))) = omega (arith, over.head, none)
not_empty Unfit fs t none (inr (inl (inr more))) = omega (arith, none, ap length more.1.parts, long_enough more.1.first more.1.rest)
not_empty Unfit fs t none (inr (inr unfit)) = omega (arith, none, ap length unfit.found.parts, long_enough unfit.found.first unfit.found.rest)

-- one reading of an input goes on where the other stops
record GoesOn (fs gs : List (List ℕ)) (t u : List ℕ) : Type 0 where
  more : List (List ℕ)
  whole : gs ≡ fs ++ more
  left : t ≡ framed more ++ u
  short : AllByRecursion IsShort more

meets : (fs gs : List (List ℕ)) (t u : List ℕ) → AllByRecursion IsShort fs → AllByRecursion IsShort gs → framed fs ++ t ≡ framed gs ++ u → GoesOn fs gs t u ⊎ GoesOn gs fs u t
meets [] gs t u few less same = inl (record { more = gs; whole = refl; left = same; short = less })
meets (f ∷ fs) [] t u few less same = inr (record { more = f ∷ fs; whole = refl; left = sym same; short = few })
meets (f ∷ fs) (g ∷ gs) t u few less same =
    let regroup : frame f ++ (framed fs ++ t) ≡ frame g ++ (framed gs ++ u) = sym (append_assoc (frame f) (framed fs) t) ∙ same ∙ append_assoc (frame g) (framed gs) u in
    let first = frames_split f g (framed fs ++ t) (framed gs ++ u) few.0 less.0 regroup in
    elim (meets fs gs t u few.1 less.1 first.1) [
      | inl on ↦ inl (record { more = on.more; whole = cc (first.0, on.whole); left = on.left; short = on.short })
      | inr on ↦ inr (record { more = on.more; whole = cc (first.0, on.whole); left = on.left; short = on.short })
    ]

before : (m : List ℕ) (ms : List (List ℕ)) (t u : List ℕ) → t ≡ framed (m ∷ ms) ++ u → t ≡ frame m ++ (framed ms ++ u)
before m ms t u left = left ∙ append_assoc (frame m) (framed ms) u

-- what can't be handled is no frame that is
no_frame : (Handled : List (List ℕ) → Type 0) (Unfit : List (List ℕ) → List ℕ → Type 0) → IsForm Handled Unfit
    → (fs gs : List (List ℕ)) (m : List ℕ) (ms : List (List ℕ)) (t u : List ℕ) → Handled gs → gs ≡ fs ++ m ∷ ms → t ≡ frame m ++ (framed ms ++ u) → IsShort m → Breaks Unfit fs t → ⊥
no_frame Handled Unfit form fs gs m ms t u handled whole left short (inl torn) = not_torn m (framed ms ++ u) short (rw left at torn)
no_frame Handled Unfit form fs gs m ms t u handled whole left short (inr (inl (inl over))) = not_over m (framed ms ++ u) short (rw left at over)
no_frame Handled Unfit form fs gs m ms t u handled whole left short (inr (inl (inr more))) = omega (arith, more.0, form.few gs handled, ap length whole, length-append fs (m ∷ ms))
no_frame Handled Unfit form fs gs m ms t u handled whole left short (inr (inr unfit)) =
    let found = unfit.found in
    let same : frame m ++ (framed ms ++ u) ≡ frame found.first ++ found.rest = sym left ∙ found.parts in
    let one = frames_split m found.first (framed ms ++ u) found.rest short found.short same in
    form.fits fs m ms (subst Handled whole handled) (subst (Unfit fs) (sym one.0) unfit.unfit)

no_further : (Handled : List (List ℕ) → Type 0) (Unfit : List (List ℕ) → List ℕ → Type 0) → IsForm Handled Unfit
    → (fs gs more : List (List ℕ)) (t u : List ℕ) → Handled gs → gs ≡ fs ++ more → t ≡ framed more ++ u → AllByRecursion IsShort more → Breaks Unfit fs t → (fs ≡ gs) × (t ≡ u)
no_further Handled Unfit form fs gs [] t u handled whole left short breaks = (sym (whole ∙ append-nil fs), left)
no_further Handled Unfit form fs gs (m ∷ ms) t u handled whole left short breaks = absurd (no_frame Handled Unfit form fs gs m ms t u handled whole (before m ms t u left) short.0 breaks)

pub one_place : (Handled : List (List ℕ) → Type 0) (Unfit : List (List ℕ) → List ℕ → Type 0) → IsForm Handled Unfit
    → (input : List ℕ) (fs gs : List (List ℕ)) (t u : List ℕ) → input ≡ framed fs ++ t → input ≡ framed gs ++ u → Handled fs → Handled gs → Breaks Unfit fs t → Breaks Unfit gs u → (fs ≡ gs) × (t ≡ u)
one_place Handled Unfit form input fs gs t u here there handled others breaks ends =
    elim (meets fs gs t u (form.short fs handled) (form.short gs others) (sym here ∙ there)) [
      | inl on ↦ no_further Handled Unfit form fs gs on.more t u others on.whole on.left on.short breaks
      | inr on ↦ let (same, left) = no_further Handled Unfit form gs fs on.more u t handled on.whole on.left on.short ends in (sym same, sym left)
    ]

none_left : (Handled : List (List ℕ) → Type 0) (Unfit : List (List ℕ) → List ℕ → Type 0) → IsForm Handled Unfit
    → (fs gs more : List (List ℕ)) (u : List ℕ) → Handled fs → fs ≡ gs ++ more → u ≡ framed more ++ [] → AllByRecursion IsShort more → Breaks Unfit gs u → ⊥
none_left Handled Unfit form fs gs [] u handled whole left short breaks = not_empty Unfit gs u (ap length left) breaks
none_left Handled Unfit form fs gs (m ∷ ms) u handled whole left short breaks = no_frame Handled Unfit form gs fs m ms u [] handled whole (before m ms u [] left) short.0 breaks

-- an input of frames that are handled breaks nowhere
pub never_breaks : (Handled : List (List ℕ) → Type 0) (Unfit : List (List ℕ) → List ℕ → Type 0) → IsForm Handled Unfit
    → (fs gs : List (List ℕ)) (u : List ℕ) → Handled fs → Handled gs → framed fs ≡ framed gs ++ u → Breaks Unfit gs u → ⊥
never_breaks Handled Unfit form fs gs u handled others same breaks =
    elim (meets fs gs [] u (form.short fs handled) (form.short gs others) (append-nil (framed fs) ∙ same)) [
      | inl on ↦ not_empty Unfit gs u (omega (arith, ap length on.left, length-append (framed on.more) u)) breaks
      | inr on ↦ none_left Handled Unfit form fs gs on.more u handled on.whole on.left on.short breaks
    ]

-- and for one reason
pub torn_or_limit : (fs : List (List ℕ)) (t : List ℕ) → IsTorn t → PassesLimit fs t → ⊥
torn_or_limit fs t (some, inl low) (inl over) = omega (arith, over.head, low)
torn_or_limit fs t (some, inr (small, low)) (inl over) = omega (arith, over.over, small)
torn_or_limit fs t torn (inr more) = not_torn more.1.first more.1.rest more.1.short (rw more.1.parts at torn)

pub torn_or_unfit : (Unfit : List (List ℕ) → List ℕ → Type 0) (fs : List (List ℕ)) (t : List ℕ) → IsTorn t → IsUnfit Unfit fs t → ⊥
torn_or_unfit Unfit fs t torn unfit = not_torn unfit.found.first unfit.found.rest unfit.found.short (rw unfit.found.parts at torn)

pub limit_or_unfit : (Handled : List (List ℕ) → Type 0) (Unfit : List (List ℕ) → List ℕ → Type 0) → IsForm Handled Unfit → (fs : List (List ℕ)) (t : List ℕ) → PassesLimit fs t → IsUnfit Unfit fs t → ⊥
limit_or_unfit Handled Unfit form fs t (inl over) unfit = not_over unfit.found.first unfit.found.rest unfit.found.short (rw unfit.found.parts at over)
limit_or_unfit Handled Unfit form fs t (inr more) unfit = omega (arith, more.0, form.below fs unfit.found.first unfit.unfit)

pub breaks_there : (Unfit : List (List ℕ) → List ℕ → Type 0) (fs : List (List ℕ)) (t : List ℕ) → t ≡ [] → Breaks Unfit fs t → ⊥
breaks_there Unfit fs t none breaks = not_empty Unfit fs t (ap length none) breaks
