-- The lines of an input stop being a schedule at one place, and for one reason.
use Rattle.std.specs.Prelude.{◌⊎◌}
use Rattle.std.proofs.Common.{◌≡◌, ◌≢◌, ℕ, ◌+◌, inl, inr, List, [], ◌∷◌, ◌++◌, length, Option, refl, ap, sym, subst, ◌∙◌, append-nil, append_assoc, length-append, arith}
use Rattle.run_loop.specs.Sends.{HasSent}
use Rattle.line_loop.specs.Lines.{lines_of}
use Rattle.line_loop.specs.Sends.{stop_line}
use Rattle.schedule_forms.specs.Schedules.{AreHandled, PassesLimit, IsUnfit, StopsWith}
use Rattle.schedule_forms.proofs.Fitting.{handled_front, short_last}

-- with the next line these aren't handled any more, or there is no line at all
pub Breaks : List (List ℕ) → List (List ℕ) → Type 0
Breaks ls [] = ls ≡ []
Breaks ls (l ∷ after) = AreHandled (ls ++ l ∷ []) → ⊥

unfit_breaks : (ls more : List (List ℕ)) → IsUnfit ls more → Breaks ls more
unfolding Breaks
unfit_breaks ls [] none = none
unfit_breaks ls (l ∷ after) unfit = λ h. unfit.2 h.fit

limit_breaks : (ls more : List (List ℕ)) → PassesLimit ls more → Breaks ls more
unfolding Breaks
limit_breaks ls [] none = absurd none
limit_breaks ls (l ∷ after) (inl long) = λ h. omega (arith, long, short_last ls l h.short)
limit_breaks ls (l ∷ after) (inr many) = λ h. omega (arith, many, h.few, length-append ls (l ∷ []))

limit_or_unfit : (ls more : List (List ℕ)) → PassesLimit ls more → IsUnfit ls more → ⊥
limit_or_unfit ls [] none unfit = none
limit_or_unfit ls (l ∷ after) (inl long) unfit = omega (arith, long, unfit.0)
limit_or_unfit ls (l ∷ after) (inr many) unfit = omega (arith, many, unfit.1)

-- one front goes on where the other ends
record GoesOn (ls gs t u : List (List ℕ)) : Type 0 where
  more : List (List ℕ)
  whole : gs ≡ ls ++ more
  left : t ≡ more ++ u

meets : (ls gs t u : List (List ℕ)) → ls ++ t ≡ gs ++ u → GoesOn ls gs t u ⊎ GoesOn gs ls u t
meets [] gs t u same = inl (record { more = gs; whole = refl; left = same })
meets (l ∷ ls) [] t u same = inr (record { more = l ∷ ls; whole = refl; left = sym same })
meets (l ∷ ls) (g ∷ gs) t u same =
    let first : l ≡ g = cc in
    let others : ls ++ t ≡ gs ++ u = cc in
    elim (meets ls gs t u others) [
      | inl on ↦ inl (record { more = on.more; whole = cc (first, on.whole); left = on.left })
      | inr on ↦ inr (record { more = on.more; whole = cc (first, on.whole); left = on.left })
    ]

-- lines that are handled don't go on behind a break
no_further : (ls more u : List (List ℕ)) → AreHandled (ls ++ more) → Breaks ls (more ++ u) → more ≡ []
unfolding Breaks
no_further ls [] u h breaks = refl
no_further ls (m ∷ ms) u h breaks =
    let regroup : ls ++ m ∷ ms ≡ (ls ++ m ∷ []) ++ ms = sym (append_assoc ls (m ∷ []) ms) in
    absurd (breaks (handled_front (ls ++ m ∷ []) ms (subst AreHandled regroup h)))

at_break : (ls gs t u : List (List ℕ)) → GoesOn ls gs t u → AreHandled gs → Breaks ls t → (gs ≡ ls) × (t ≡ u)
at_break ls gs t u on h breaks =
    let none = no_further ls on.more u (subst AreHandled on.whole h) (subst (Breaks ls) on.left breaks) in
    (on.whole ∙ ap (λ (z : List (List ℕ)). ls ++ z) none ∙ append-nil ls, on.left ∙ ap (λ (z : List (List ℕ)). z ++ u) none)

one_place : (ls gs t u : List (List ℕ)) → ls ++ t ≡ gs ++ u → AreHandled ls → AreHandled gs → Breaks ls t → Breaks gs u → (gs ≡ ls) × (u ≡ t)
one_place ls gs t u same handled others breaks ends =
    elim (meets ls gs t u same) [
      | inl on ↦ let (g, v) = at_break ls gs t u on others breaks in (g, sym v)
      | inr on ↦ let (g, v) = at_break gs ls u t on handled ends in (sym g, v)
    ]

-- how a run with memory and without a fault ended behind these lines and their text
pub Outcome : ℕ → List (List ℕ) → List (List ℕ) → List ℕ → Option (List ℕ) → Option (List ℕ) → Type 0
Outcome status gs u text sent0 sent =
    ((status ≡ 0) × (gs ≢ []) × (u ≡ [])) ⊎ ((status ≡ 5) × IsUnfit gs u × HasSent sent0 sent (text ++ stop_line 5 (length gs + 1))) ⊎ ((status ≡ 7) × PassesLimit gs u × HasSent sent0 sent (text ++ stop_line 7 (length gs + 1)))

pub record HasEnded (status : ℕ) (input text : List ℕ) (sent0 sent : Option (List ℕ)) : Type 0 where
  pub lines : List (List ℕ)
  pub more : List (List ℕ)
  pub parts : lines_of input ≡ lines ++ more
  pub handled : AreHandled lines
  pub outcome : Outcome status lines more text sent0 sent

pub with_zero : (status : ℕ) (gs : List (List ℕ)) (text : List ℕ) (sent0 sent : Option (List ℕ)) → status ≡ 0 → gs ≢ [] → Outcome status gs [] text sent0 sent
unfolding Outcome
with_zero status gs text sent0 sent is some = inl (is, some, refl)

pub with_five : (status : ℕ) (gs u : List (List ℕ)) (text : List ℕ) (sent0 sent : Option (List ℕ)) → status ≡ 5 → IsUnfit gs u → HasSent sent0 sent (text ++ stop_line 5 (length gs + 1)) → Outcome status gs u text sent0 sent
unfolding Outcome
with_five status gs u text sent0 sent is unfit said = inr (inl (is, unfit, said))

pub with_seven : (status : ℕ) (gs u : List (List ℕ)) (text : List ℕ) (sent0 sent : Option (List ℕ)) → status ≡ 7 → PassesLimit gs u → HasSent sent0 sent (text ++ stop_line 7 (length gs + 1)) → Outcome status gs u text sent0 sent
unfolding Outcome
with_seven status gs u text sent0 sent is limit said = inr (inr (is, limit, said))

-- lines that are all handled don't break
whole_goes_on : (ls t : List (List ℕ)) → ls ++ t ≢ [] → AreHandled (ls ++ t) → Breaks ls t → ⊥
unfolding Breaks
whole_goes_on ls [] some h breaks = some (append-nil ls ∙ breaks)
whole_goes_on ls (l ∷ after) some h breaks =
    let regroup : ls ++ l ∷ after ≡ (ls ++ l ∷ []) ++ after = sym (append_assoc ls (l ∷ []) after) in
    breaks (handled_front (ls ++ l ∷ []) after (subst AreHandled regroup h))

-- lines that are all handled are gone over to their end
pub ends_well : (status : ℕ) (input text : List ℕ) (sent0 sent : Option (List ℕ)) → HasEnded status input text sent0 sent → lines_of input ≢ [] → AreHandled (lines_of input) → status ≡ 0
unfolding Outcome
ends_well status input text sent0 sent e some h =
    let all : AreHandled (e.lines ++ e.more) = subst AreHandled e.parts h in
    let there : e.lines ++ e.more ≢ [] = λ none. some (e.parts ∙ none) in
    elim e.outcome [
      | inl done ↦ done.0
      | inr others ↦
          elim others [
            | inl unfit ↦ absurd (whole_goes_on e.lines e.more there all (unfit_breaks e.lines e.more unfit.1))
            | inr limit ↦ absurd (whole_goes_on e.lines e.more there all (limit_breaks e.lines e.more limit.1))
          ]
    ]

pub complete : (status : ℕ) (input : List ℕ) (sent0 sent : Option (List ℕ)) → (status ≡ 6) ⊎ HasEnded status input [] sent0 sent → lines_of input ≢ [] → AreHandled (lines_of input) → (status ≡ 0) ⊎ (status ≡ 6)
complete status input sent0 sent (inl six) some h = inr six
complete status input sent0 sent (inr e) some h = inl (ends_well status input [] sent0 sent e some h)

-- the run ended where the lines break
same_place : (status : ℕ) (input text : List ℕ) (ls t : List (List ℕ)) (sent0 sent : Option (List ℕ)) → (e : HasEnded status input text sent0 sent) → lines_of input ≡ ls ++ t → AreHandled ls → Breaks ls t → (e.lines ≡ ls) × Outcome status ls t text sent0 sent
unfolding Outcome
same_place status input text ls t sent0 sent e is handled breaks =
    elim e.outcome [
      | inl done ↦
          let whole : e.lines ≡ ls ++ t = sym (append-nil e.lines) ∙ ap (λ (z : List (List ℕ)). e.lines ++ z) (sym done.2) ∙ sym e.parts ∙ is in
          absurd (whole_goes_on ls t (λ none. done.1 (whole ∙ none)) (subst AreHandled whole e.handled) breaks)
      | inr others ↦
          elim others [
            | inl unfit ↦
                let (g, u) = one_place ls e.lines t e.more (sym is ∙ e.parts) handled e.handled breaks (unfit_breaks e.lines e.more unfit.1) in
                (g, inr (inl (unfit.0, rw (g, u) at unfit.1, rw g at unfit.2)))
            | inr limit ↦
                let (g, u) = one_place ls e.lines t e.more (sym is ∙ e.parts) handled e.handled breaks (limit_breaks e.lines e.more limit.1) in
                (g, inr (inr (limit.0, rw (g, u) at limit.1, rw g at limit.2)))
          ]
    ]

limit_said : (status : ℕ) (ls t : List (List ℕ)) (text : List ℕ) (sent0 sent : Option (List ℕ)) → Outcome status ls t text sent0 sent → PassesLimit ls t → (status ≡ 7) × HasSent sent0 sent (text ++ stop_line 7 (length ls + 1))
unfolding Outcome
limit_said status ls [] text sent0 sent o limit = absurd limit
limit_said status ls (l ∷ after) text sent0 sent (inl done) limit = let none : l ∷ after ≡ [] = done.2 in absurd cc
limit_said status ls (l ∷ after) text sent0 sent (inr (inl unfit)) limit = absurd (limit_or_unfit ls (l ∷ after) limit unfit.1)
limit_said status ls (l ∷ after) text sent0 sent (inr (inr past)) limit = (past.0, past.2)

unfit_said : (status : ℕ) (ls t : List (List ℕ)) (text : List ℕ) (sent0 sent : Option (List ℕ)) → Outcome status ls t text sent0 sent → IsUnfit ls t → (status ≡ 5) × HasSent sent0 sent (text ++ stop_line 5 (length ls + 1))
unfolding Outcome
unfit_said status ls [] text sent0 sent (inl done) unfit = absurd (done.1 unfit)
unfit_said status ls (l ∷ after) text sent0 sent (inl done) unfit = let none : l ∷ after ≡ [] = done.2 in absurd cc
unfit_said status ls t text sent0 sent (inr (inl at)) unfit = (at.0, at.2)
unfit_said status ls t text sent0 sent (inr (inr past)) unfit = absurd (limit_or_unfit ls t past.1 unfit)

-- the run ended behind these lines, with this status and its text
pub record StopsBehind (gs ls : List (List ℕ)) (wanted status : ℕ) (text : List ℕ) (sent0 sent : Option (List ℕ)) : Type 0 where
  pub same : gs ≡ ls
  pub status_is : status ≡ wanted
  pub said : HasSent sent0 sent (text ++ stop_line wanted (length ls + 1))

pub at_limit : (status : ℕ) (input text : List ℕ) (ls t : List (List ℕ)) (sent0 sent : Option (List ℕ)) → (e : HasEnded status input text sent0 sent) → lines_of input ≡ ls ++ t → AreHandled ls → PassesLimit ls t → StopsBehind e.lines ls 7 status text sent0 sent
at_limit status input text ls t sent0 sent e is handled past =
    let (g, o) = same_place status input text ls t sent0 sent e is handled (limit_breaks ls t past) in
    let said = limit_said status ls t text sent0 sent o past in
    record { same = g; status_is = said.0; said = said.1 }

pub at_unfit : (status : ℕ) (input text : List ℕ) (ls t : List (List ℕ)) (sent0 sent : Option (List ℕ)) → (e : HasEnded status input text sent0 sent) → lines_of input ≡ ls ++ t → AreHandled ls → IsUnfit ls t → StopsBehind e.lines ls 5 status text sent0 sent
at_unfit status input text ls t sent0 sent e is handled unfit =
    let (g, o) = same_place status input text ls t sent0 sent e is handled (unfit_breaks ls t unfit) in
    let said = unfit_said status ls t text sent0 sent o unfit in
    record { same = g; status_is = said.0; said = said.1 }

pub stops : (status : ℕ) (input : List ℕ) (ls t : List (List ℕ)) (sent0 sent : Option (List ℕ)) → (status ≡ 6) ⊎ HasEnded status input [] sent0 sent → lines_of input ≡ ls ++ t → AreHandled ls → StopsWith ls t status sent0 sent
stops status input ls t sent0 sent (inl six) is handled = record { limit = λ past. inl six; unfit = λ unfit. inl six }
stops status input ls t sent0 sent (inr e) is handled = record {
  limit = λ past. let s = at_limit status input [] ls t sent0 sent e is handled past in inr (s.status_is, s.said);
  unfit = λ unfit. let s = at_unfit status input [] ls t sent0 sent e is handled unfit in inr (s.status_is, s.said);
}
