-- A chip that holds a history goes on holding it.
use Rattle.std.proofs.Common.{◌≡◌, ◌⊎◌, ⊎_elim, inl, inr, ℕ, ◌+◌, ◌≤◌, ◌<◌, Bool, List, [], ◌∷◌, length, refl, sym, ◌∙◌, ap, subst, arith}
use Rattle.std.specs.Prelude.{Option, Some, None}
use Rattle.chip_port.specs.Seen.{Seen}
use Rattle.chip_port.specs.Rules.{Sound}
use Rattle.chip_port.specs.Runs.{Ran, Ended}
use Rattle.small_card.specs.Units.{CardUnit}
use Rattle.small_card.specs.Histories.{History, full_of, with_unit}
use Rattle.small_card.specs.Prefixes.{first_units}
use Rattle.small_card.proofs.Prefixes.{first_more, first_all}
use Rattle.card_store.specs.Standing.{Stands}
use Rattle.card_store.specs.Holding.{Mark, StandsAt, IsMarked, AreMarked, Holds, IsHeld, followed, standing}

-- what stands for the units that stood, stands for them with or without an attempt
at_least : (h : History) (u : Option CardUnit) (i : List ℕ) → Stands (full_of h) i → StandsAt h u i
at_least h None i s = s
at_least h (Some u) i s = inl s

-- an attempt may come
attempted : (h : History) (a u : Option CardUnit) (i : List ℕ) → (a ≡ None) ⊎ (a ≡ u) → StandsAt h a i → StandsAt h u i
attempted h a u i (inl none) s = at_least h u i (subst (λ (o : Option CardUnit). StandsAt h o i) none s)
attempted h a u i (inr same) s = subst (λ (o : Option CardUnit). StandsAt h o i) same s

-- the first units stay the first ones
first_followed : (k : ℕ) (h : History) (v : Option CardUnit) → k ≤ length h.units → first_units k (followed h v) ≡ first_units k h
first_followed k h None le = refl
first_followed k h (Some u) le = first_more k h u le

length-followed : (h : History) (v : Option CardUnit) → length h.units ≤ length (followed h v).units
unfolding with_unit
length-followed h None = omega arith
length-followed h (Some u) = omega arith

-- a mark whose images stay
mark_stays : (h : History) (v : Option CardUnit) (m : Mark) (left later : List ℕ → Type 0) → ((i : List ℕ) → left i → later i) → ((i : List ℕ) → later i → left i) → IsMarked h m left → IsMarked (followed h v) m later
mark_stays h v m left later keeps adds is =
    let same = first_followed m.units h v is.within in
    record {
      within = omega (arith, is.within, length-followed h v);
      each = λ i now. subst (λ (g : History). StandsAt g m.attempt i) (sym same) (is.each i (adds i now));
      some = (is.some.0, keeps is.some.0 is.some.1, subst (λ (g : History). Stands (full_of g) is.some.0) (sym same) is.some.2);
    }

-- older marks stay
marks_stay : (s t : Seen) (first : ℕ) (h : History) (v : Option CardUnit) (older : List Mark) → ((k : ℕ) (i : List ℕ) → s.left k i → t.left k i) → ((k : ℕ) (i : List ℕ) → k < first + length older → t.left k i → s.left k i)
    → AreMarked s first h older → AreMarked t first (followed h v) older
marks_stay s t first h v [] keeps adds are = tt
marks_stay s t first h v (m ∷ older) keeps adds are =
    let n = first + length older in
    (mark_stays h v m (s.left n) (t.left n) (keeps n) (λ i now. adds n i (omega arith) now) are.0, marks_stay s t first h v older keeps (λ k i lt now. adds k i (omega (arith, lt)) now) are.1)

-- the last mark with its attempt
last_mark : (h : History) (v u : Option CardUnit) (m : Mark) (left later : List ℕ → Type 0) → m.units ≡ length h.units → (m.attempt ≡ None) ⊎ (m.attempt ≡ u) → ((i : List ℕ) → left i → later i) → ((i : List ℕ) → later i → left i ⊎ StandsAt h u i)
    → IsMarked h m left → IsMarked (followed h v) (record m { attempt = u }) later
last_mark h v u m left later all attempt keeps adds is =
    let same = first_followed m.units h v is.within in
    let whole : first_units m.units h ≡ h = ap (λ (k : ℕ). first_units k h) all ∙ first_all h in
    record {
      within = omega (arith, is.within, length-followed h v);
      each = λ i now. subst (λ (g : History). StandsAt g u i) (sym (same ∙ whole)) (⊎_elim (λ was. attempted h m.attempt u i attempt (subst (λ (g : History). StandsAt g m.attempt i) whole (is.each i was))) (λ added. added) (adds i now));
      some = (is.some.0, keeps is.some.0 is.some.1, subst (λ (g : History). Stands (full_of g) is.some.0) (sym same) is.some.2);
    }

-- the number of the last answer
last_answer : (s : Seen) (first : ℕ) (h : History) (m : Mark) (older : List Mark) → Holds s first h (m ∷ older) → first + length older ≡ s.marks.answers
last_answer s first h m older holds = omega (arith, holds.answers)

-- an answer more
pub answer_held : (s t : Seen) (first n : ℕ) (h : History) (m : Mark) (older : List Mark) (u v : Option CardUnit) → Sound 346624 s → Sound 346624 t → IsHeld s first h m older u → (v ≡ None) ⊎ (v ≡ u)
    → Ended n (StandsAt h u) (Stands (full_of (followed h v))) s t → Holds t first (followed h v) (standing (followed h v) ∷ record m { attempt = u } ∷ older)
answer_held s t first n h m older u v sound_old sound held either run =
    let last = last_answer s first h m older held.holds in
    let h' = followed h v in
    let answers : t.marks.answers ≡ s.marks.answers + 1 = ap (λ k. k.answers) run.marks in
    let here : first + length (record m { attempt = u } ∷ older) ≡ s.marks.answers + 1 = omega (arith, last) in
    let whole : first_units (length h'.units) h' ≡ h' = first_all h' in
    record {
      answers = omega (arith, answers, last);
      marked = (
        record {
          within = omega arith;
          each = λ i now. subst (λ (g : History). Stands (full_of g) i) (sym whole) (new_image i (subst (λ (k : ℕ). t.left k i) here now));
          some = (t.reads, subst (λ (k : ℕ). t.left k t.reads) (answers ∙ sym here) (sound.counts_now t.reads sound.reads_now), subst (λ (g : History). Stands (full_of g) t.reads) (sym whole) (run.here t.reads sound.reads_now));
        },
        (
          last_mark h v u m (s.left (first + length older)) (t.left (first + length older)) held.all held.attempt (run.keeps (first + length older)) (λ i now. old_image i now last) held.holds.marked.0,
          marks_stay s t first h v older run.keeps (λ k i lt now. ⊎_elim (λ was. was) (λ added. ⊎_elim (λ at. absurd (omega (arith, at.0, lt, last))) (λ at. absurd (omega (arith, at.0, lt, last))) added) (run.adds k i now)) held.holds.marked.1,
        ),
      );
    }
  where
    new_image : (i : List ℕ) → t.left (s.marks.answers + 1) i → Stands (full_of (followed h v)) i
    new_image i now = ⊎_elim (λ was. absurd (omega (arith, sound_old.none_above (s.marks.answers + 1) i was))) (λ added. ⊎_elim (λ at. absurd (omega (arith, at.0))) (λ at. at.1) added) (run.adds (s.marks.answers + 1) i now)

    old_image : (i : List ℕ) → t.left (first + length older) i → first + length older ≡ s.marks.answers → s.left (first + length older) i ⊎ StandsAt h u i
    old_image i now last = ⊎_elim inl (λ added. ⊎_elim (λ at. inr at.1) (λ at. absurd (omega (arith, at.0, last))) added) (run.adds (first + length older) i now)

-- no answer more
pub loss_held : (s t : Seen) (first n : ℕ) (ok : Bool) (h : History) (m : Mark) (older : List Mark) (u : Option CardUnit) → IsHeld s first h m older u → Ran n ok (StandsAt h u) s t → Holds t first h (record m { attempt = u } ∷ older)
loss_held s t first n ok h m older u held run =
    let last = last_answer s first h m older held.holds in
    record {
      answers = ap (λ k. k.answers + 1) run.marks ∙ held.holds.answers;
      marked = (
        last_mark h None u m (s.left (first + length older)) (t.left (first + length older)) held.all held.attempt (run.keeps (first + length older)) (λ i now. ⊎_elim inl (λ at. inr at.1) (run.adds (first + length older) i now)) held.holds.marked.0,
        marks_stay s t first h None older run.keeps (λ k i lt now. ⊎_elim (λ was. was) (λ at. absurd (omega (arith, at.0, lt, last))) (run.adds k i now)) held.holds.marked.1,
      );
    }
