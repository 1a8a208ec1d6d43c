-- What a line does to the counts of a bench, and to the lost lines of its stretches.
use Rattle.std.proofs.Common.{◌≡◌, ◌≢◌, ◌≤◌, ◌<◌, ◌⊎◌, inl, inr, ℕ, ◌+◌, ◌-◌, ◌*◌, ◌^◌, Bool, true, false, cond, List, [], ◌∷◌, refl, sym, subst, ◌∙◌, arith}
use Rattle.std.specs.Prelude.{min, ◌&&◌}
use Rattle.std.proofs.lemmas.Bool.{cases_lt}
use Rattle.iot_bytes.specs.Causes.{Rose}
use Rattle.chip_port.specs.Seen.{Seen, Marks, up}
use Rattle.run_loop.proofs.Going.{rose-since, rose-until}
use Rattle.small_world.specs.Stretches.{Fate, count_fates, stretched, stretches}
use Rattle.world_card.specs.Counts.{Counted, KeepsPast, IsMarkedNow, answered_fate}
use Rattle.world_forms.specs.Losses.{raised, FewLosses, AreFew, AreCounted}

-- nothing was lost in a stretch that begins now
few_none : (cuts breaks cuts_now breaks_now : ℕ) → cuts ≡ cuts_now → breaks ≡ breaks_now → FewLosses [] cuts breaks cuts_now breaks_now
unfolding count_fates
few_none cuts breaks cuts_now breaks_now c b = record {
  all = inr (inr (omega (arith, c, b)));
  early = omega (arith, b);
}

raised_none : (count : ℕ) → count ≡ raised 0 count
raised_none count = omega arith

-- the first line is answered
pub counted_first : (s t : Seen) → Counted (answered_fate true) s t → AreCounted s t []
unfolding stretches count_fates
counted_first s t c =
    let now = c.now refl in
    record {
      stretches_are = (few_none (t.marks.cuts_at t.marks.answers) (t.marks.breaks_at t.marks.answers) t.tally.cuts t.tally.breaks now.cuts now.breaks, tt);
      uses = omega (arith, c.most);
      plans = c.plans ∙ raised_none s.tally.plans;
      later = c.faults;
      lost = λ some. absurd (some refl);
    }

-- the lost lines of a stretch, where both counts are below their end
abbrev AllOf : ℕ → ℕ → ℕ → ℕ → ℕ → Type 0
AllOf cuts breaks many cuts_now breaks_now = (2 ^ 64 - 1 ≤ cuts_now) ⊎ ((2 ^ 64 - 1 ≤ breaks_now) ⊎ (cuts + breaks + many ≤ cuts_now + breaks_now))

-- both counts only rise
all_later : (cuts breaks many c b c' b' : ℕ) → c ≤ c' → b ≤ b' → AllOf cuts breaks many c b → AllOf cuts breaks many c' b'
all_later cuts breaks many c b c' b' less few (inl end) = inl (omega (arith, end, less))
all_later cuts breaks many c b c' b' less few (inr (inl end)) = inr (inl (omega (arith, end, few)))
all_later cuts breaks many c b c' b' less few (inr (inr all)) = inr (inr (omega (arith, all, less, few)))

-- the cuts rose
all_cut : (cuts breaks many c b c' b' : ℕ) → c ≤ c' → b ≤ b' → Rose c c' → AllOf cuts breaks many c b → AllOf cuts breaks (many + 1) c' b'
all_cut cuts breaks many c b c' b' less few rose (inl end) = inl (omega (arith, end, less))
all_cut cuts breaks many c b c' b' less few rose (inr (inl end)) = inr (inl (omega (arith, end, few)))
all_cut cuts breaks many c b c' b' less few rose (inr (inr all)) =
    let at : (c' < 2 ^ 64 - 1) ⊎ (2 ^ 64 - 1 ≤ c') = cases_lt c' (2 ^ 64 - 1) in
    elim at as (λ _. AllOf cuts breaks (many + 1) c' b') [
      | inl below ↦ inr (inr (omega (arith, all, few, rose, below)))
      | inr end ↦ inl end
    ]

-- the breaks rose
all_broke : (cuts breaks many c b c' b' : ℕ) → c ≤ c' → b ≤ b' → Rose b b' → AllOf cuts breaks many c b → AllOf cuts breaks (many + 1) c' b'
all_broke cuts breaks many c b c' b' less few rose (inl end) = inl (omega (arith, end, less))
all_broke cuts breaks many c b c' b' less few rose (inr (inl end)) = inr (inl (omega (arith, end, few)))
all_broke cuts breaks many c b c' b' less few rose (inr (inr all)) =
    let at : (b' < 2 ^ 64 - 1) ⊎ (2 ^ 64 - 1 ≤ b') = cases_lt b' (2 ^ 64 - 1) in
    elim at as (λ _. AllOf cuts breaks (many + 1) c' b') [
      | inl below ↦ inr (inr (omega (arith, all, less, rose, below)))
      | inr end ↦ inr (inl end)
    ]

all_more : (lost : Bool) (cuts breaks many c b c' b' : ℕ) → c ≤ c' → b ≤ b' → (lost ≡ true → Rose c c' ⊎ Rose b b') → AllOf cuts breaks many c b → AllOf cuts breaks (cond lost (many + 1) many) c' b'
all_more false cuts breaks many c b c' b' less few why all = all_later cuts breaks many c b c' b' less few all
all_more true cuts breaks many c b c' b' less few why all =
    elim (why refl) as (λ _. AllOf cuts breaks (many + 1) c' b') [
      | inl rose ↦ all_cut cuts breaks many c b c' b' less few rose all
      | inr rose ↦ all_broke cuts breaks many c b c' b' less few rose all
    ]

early_more : (lost far : Bool) (breaks many b b' : ℕ) → b ≤ b' → (lost ≡ true → far ≡ true → Rose b b') → min (breaks + many) (2 ^ 64 - 1) ≤ b → min (breaks + cond (lost && far) (many + 1) many) (2 ^ 64 - 1) ≤ b'
early_more true true breaks many b b' less why few = let rose : Rose b b' = why refl refl in omega (arith, few, rose)
early_more true false breaks many b b' less why few = omega (arith, few, less)
early_more false far breaks many b b' less why few = omega (arith, few, less)

-- a stretch grows by a line
few_more : (f : Fate) (stretch : List Fate) (cuts breaks : ℕ) (t u : Seen) → Counted f t u → FewLosses stretch cuts breaks t.tally.cuts t.tally.breaks → FewLosses (f ∷ stretch) cuts breaks u.tally.cuts u.tally.breaks
unfolding count_fates
few_more f stretch cuts breaks t u c few = record {
  all = all_more f.lost cuts breaks (count_fates (λ g. g.lost) stretch) t.tally.cuts t.tally.breaks u.tally.cuts u.tally.breaks c.cuts c.breaks (λ e. (c.lost e).cause) few.all;
  early = early_more f.lost f.unplanned breaks (count_fates (λ g. g.lost && g.unplanned) stretch) t.tally.breaks u.tally.breaks c.breaks (λ e far. (c.lost e).early far) few.early;
}

few_at : (stretch : List Fate) (c b c' b' x y x' y' : ℕ) → c' ≡ c → b' ≡ b → x' ≡ x → y' ≡ y → FewLosses stretch c b x y → FewLosses stretch c' b' x' y'
few_at stretch c b c' b' x y x' y' i j k l few =
    rw i (rw j (rw k (rw l few)))

-- what was marked so far stays
few_kept : (old new : Marks) (answer c b c' b' : ℕ) (ss : List (List Fate)) → KeepsPast old new → answer ≤ old.answers → c' ≡ c → b' ≡ b → AreFew old answer c b ss → AreFew new answer c' b' ss
few_kept old new answer c b c' b' [] past less i j few = tt
few_kept old new answer c b c' b' (stretch ∷ older) past less i j few =
    let same = past answer less in (
      few_at stretch (old.cuts_at answer) (old.breaks_at answer) (new.cuts_at answer) (new.breaks_at answer) c b c' b' same.0 same.1 i j few.0,
      few_kept old new (answer - 1) (old.cuts_at answer) (old.breaks_at answer) (new.cuts_at answer) (new.breaks_at answer) older past (omega (arith, less)) same.0 same.1 few.1,
    )

-- the open stretch grows by a line
few_grown : (f : Fate) (stretch : List Fate) (older : List (List Fate)) (t u : Seen) → Counted f t u → AreFew t.marks t.marks.answers t.tally.cuts t.tally.breaks (stretch ∷ older)
    → AreFew u.marks t.marks.answers u.tally.cuts u.tally.breaks ((f ∷ stretch) ∷ older)
few_grown f stretch older t u c few =
    let n = t.marks.answers in
    let same = c.past n (omega arith) in (
      few_more f stretch (u.marks.cuts_at n) (u.marks.breaks_at n) t u c (few_at stretch (t.marks.cuts_at n) (t.marks.breaks_at n) (u.marks.cuts_at n) (u.marks.breaks_at n) t.tally.cuts t.tally.breaks t.tally.cuts t.tally.breaks same.0 same.1 refl refl few.0),
      few_kept t.marks u.marks (n - 1) (t.marks.cuts_at n) (t.marks.breaks_at n) (u.marks.cuts_at n) (u.marks.breaks_at n) older c.past (omega arith) same.0 same.1 few.1,
    )

-- the new answer ends it, and the next one is open
few_ended : (n : ℕ) (stretch : List Fate) (older : List (List Fate)) (u : Seen) → u.marks.answers ≡ n + 1 → IsMarkedNow u → AreFew u.marks n u.tally.cuts u.tally.breaks (stretch ∷ older)
    → AreFew u.marks u.marks.answers u.tally.cuts u.tally.breaks ([] ∷ stretch ∷ older)
few_ended n stretch older u same now few =
    let m = u.marks in
    let a = u.marks.answers in
    let before : n ≡ a - 1 = omega (arith, same) in (
      few_none (m.cuts_at a) (m.breaks_at a) u.tally.cuts u.tally.breaks now.cuts now.breaks,
      subst (λ (k : ℕ). AreFew m k (m.cuts_at a) (m.breaks_at a) (stretch ∷ older)) before
          (few_kept m m n u.tally.cuts u.tally.breaks (m.cuts_at a) (m.breaks_at a) (stretch ∷ older) (λ k less. (refl, refl, refl)) (omega (arith, same)) now.cuts now.breaks few),
    )

-- a line that made a mark or not
few_joined : (marked : Bool) (f : Fate) (stretch : List Fate) (older : List (List Fate)) (t u : Seen) → u.marks.answers ≡ cond marked (t.marks.answers + 1) t.marks.answers → (marked ≡ true → IsMarkedNow u)
    → AreFew u.marks t.marks.answers u.tally.cuts u.tally.breaks ((f ∷ stretch) ∷ older)
    → AreFew u.marks u.marks.answers u.tally.cuts u.tally.breaks (cond marked ([] ∷ (f ∷ stretch) ∷ older) ((f ∷ stretch) ∷ older))
few_joined true f stretch older t u same now few = few_ended t.marks.answers (f ∷ stretch) older u same (now refl) few
few_joined false f stretch older t u same now few = subst (λ (k : ℕ). AreFew u.marks k u.tally.cuts u.tally.breaks ((f ∷ stretch) ∷ older)) (sym same) few

few_all : (f : Fate) (ss : List (List Fate)) (t u : Seen) → Counted f t u → AreFew t.marks t.marks.answers t.tally.cuts t.tally.breaks ss → AreFew u.marks u.marks.answers u.tally.cuts u.tally.breaks (stretched f ss)
unfolding stretched
few_all f [] t u c few = tt
few_all f (stretch ∷ older) t u c few = few_joined f.marked f stretch older t u c.answers c.now (few_grown f stretch older t u c few)

uses_more : (costly : Bool) (s t u many : ℕ) → t ≤ s + 10000 * (1 + many) → u ≤ t + cond costly 10000 0 → u ≤ s + 10000 * (1 + cond costly (many + 1) many)
uses_more true s t u many before most = omega (arith, before, most)
uses_more false s t u many before most = omega (arith, before, most)

plans_more : (planned : Bool) (s t u many : ℕ) → t ≡ raised many s → u ≡ cond planned (up t) t → u ≡ raised (cond planned (many + 1) many) s
plans_more true s t u many before now = omega (arith, before, now)
plans_more false s t u many before now = now ∙ before

lost_more : (lost : Bool) (s t u many : ℕ) → s ≤ t → t ≤ u → (many ≢ 0 → Rose s t) → (lost ≡ true → Rose t u) → cond lost (many + 1) many ≢ 0 → Rose s u
lost_more true s t u many less few before now some = rose-since s t u less (now refl)
lost_more false s t u many less few before now some = rose-until s t u (before some) few

-- one more line
pub counted_more : (s t u : Seen) (f : Fate) (fs : List Fate) → AreCounted s t fs → Counted f t u → AreCounted s u (f ∷ fs)
unfolding stretches count_fates
counted_more s t u f fs before c = record {
  stretches_are = few_all f (stretches fs) t u c before.stretches_are;
  uses = uses_more f.costly s.tally.uses t.tally.uses u.tally.uses (count_fates (λ g. g.costly) fs) before.uses c.most;
  plans = plans_more f.planned s.tally.plans t.tally.plans u.tally.plans (count_fates (λ g. g.planned) fs) before.plans c.plans;
  later = omega (arith, before.later, c.faults);
  lost = lost_more f.lost s.faults t.faults u.faults (count_fates (λ g. g.lost) fs) before.later c.faults before.lost (λ e. (c.lost e).fault);
}
