-- A chip that holds a history goes on holding it over the calls of a card.
use Rattle.std.proofs.Common.{◌≡◌, ◌⊎◌, ⊎_elim, inl, inr, ℕ, ◌+◌, List, [], ◌∷◌, length, refl, sym, ◌∙◌, ap, subst, arith}
use Rattle.std.specs.Prelude.{Option, Some, None}
use Rattle.chip_port.specs.Seen.{Seen}
use Rattle.chip_port.specs.Rules.{Sound}
use Rattle.chip_port.specs.Runs.{Ended}
use Rattle.small_card.specs.Units.{CardUnit}
use Rattle.small_card.specs.Histories.{History, full_of}
use Rattle.small_card.specs.Prefixes.{first_units}
use Rattle.small_card.proofs.Prefixes.{first_all}
use Rattle.small_card.specs.declared.types.Command.{Command}
use Rattle.package_codec.specs.Replies.{unit_of, grown, after}
use Rattle.card_store.specs.Looking.{Looks}
use Rattle.card_store.specs.Standing.{Stands}
use Rattle.card_store.specs.Holding.{Mark, AreMarked, Holds, IsHeld, StandsAt, followed, standing}
use Rattle.card_store.proofs.Holding.{answer_held}
use Rattle.euicc_core.specs.Answers.{Answers}

followed_grown : (h : History) (u : Option CardUnit) → grown u h ≡ followed h u
followed_grown h None = refl
followed_grown h (Some u) = refl

after_followed : (h : History) (c : Command) → after h c ≡ followed h (unit_of h c)
unfolding after
after_followed h c = followed_grown h (unit_of h c)

pub step_held : (s t : Seen) (first : ℕ) (h : History) (c : Command) (m : Mark) (older : List Mark) → Sound 346624 s → Sound 346624 t → IsHeld s first h m older (unit_of h c)
    → Answers (StandsAt h (unit_of h c)) (full_of (after h c)) s t → Holds t first (after h c) (standing (after h c) ∷ record m { attempt = unit_of h c } ∷ older)
step_held s t first h c m older before now held a =
    let u = unit_of h c in
    let same = after_followed h c in
    let run : Ended 10000 (StandsAt h u) (Stands (full_of (followed h u))) s t = subst (λ (g : History). Ended 10000 (StandsAt h u) (Stands (full_of g)) s t) same a.ended in
    subst (λ (g : History). Holds t first g (standing g ∷ record m { attempt = u } ∷ older)) (sym same) (answer_held s t first 10000 h m older u u before now held (inr refl) run)

-- the card with the unit that was in progress, or without it
either_at : (h : History) (u v : Option CardUnit) (i : List ℕ) → (v ≡ None) ⊎ (v ≡ u) → Stands (full_of (followed h v)) i → StandsAt h u i
either_at h None None i either s = s
either_at h (Some u) None i either s = inl s
either_at h None (Some v) i either s = ⊎_elim (λ none. absurd (cc none)) (λ same. absurd (cc same)) either
either_at h (Some u) (Some v) i either s =
    ⊎_elim (λ none. absurd (cc none)) (λ same. subst (λ (o : Option CardUnit). StandsAt h o i) same (inr s)) either

pub opening_held : (s t : Seen) (first : ℕ) (h : History) (m : Mark) (older : List Mark) (u v : Option CardUnit) → Sound 346624 s → Sound 346624 t → IsHeld s first h m older u → (v ≡ None) ⊎ (v ≡ u)
    → Answers (Stands (full_of (followed h v))) (full_of (followed h v)) s t → Holds t first (followed h v) (standing (followed h v) ∷ record m { attempt = u } ∷ older)
opening_held s t first h m older u v before now held either a =
    let run = a.ended in
    answer_held s t first 10000 h m older u v before now held either (record {
      told = run.told;
      marks = run.marks;
      keeps = run.keeps;
      adds = λ k i is. ⊎_elim inl (λ added. inr (⊎_elim (λ first. inl (first.0, either_at h u v i either first.1)) inr added)) (run.adds k i is);
      here = run.here;
      passes = run.passes;
      powered = run.powered;
      calm = run.calm;
      went = run.went;
    })

-- the same images since each answer
pub marks_kept : (s t : Seen) (first : ℕ) (h : History) (marks : List Mark) → ((k : ℕ) (i : List ℕ) → s.left k i → t.left k i) → ((k : ℕ) (i : List ℕ) → t.left k i → s.left k i) → AreMarked s first h marks → AreMarked t first h marks
marks_kept s t first h [] keeps adds are = tt
marks_kept s t first h (m ∷ older) keeps adds are =
    let k = first + length older in (
      record { within = are.0.within; each = λ i now. are.0.each i (adds k i now); some = (are.0.some.0, keeps k are.0.some.0 are.0.some.1, are.0.some.2) },
      marks_kept s t first h older keeps adds are.1,
    )

pub look_held : (s t : Seen) (n first : ℕ) (h : History) (marks : List Mark) → Looks n s t → Holds s first h marks → Holds t first h marks
look_held s t n first h marks l holds = record {
  answers = ap (λ m. m.answers + 1) l.keeps.marks ∙ holds.answers;
  marked = marks_kept s t first h marks (λ k i was. (l.left k i).0 was) (λ k i now. (l.left k i).1 now) holds.marked;
}

-- a card that was just opened or made
pub first_held : (s t : Seen) (P : List ℕ → Type 0) (h : History) → Sound 346624 s → Sound 346624 t → Answers P (full_of h) s t → Holds t (s.marks.answers + 1) h (standing h ∷ [])
first_held s t P h before now a =
    let run = a.ended in
    let answers : t.marks.answers ≡ s.marks.answers + 1 = ap (λ k. k.answers) run.marks in
    let whole : first_units (length h.units) h ≡ h = first_all h in
    let none : List Mark = [] in
    let one : s.marks.answers + 1 + length none ≡ s.marks.answers + 1 = omega arith in
    record {
      answers = omega (arith, answers);
      marked = (
        record {
          within = omega arith;
          each = λ i left. subst (λ (g : History). Stands (full_of g) i) (sym whole) (new_image i (subst (λ (k : ℕ). t.left k i) one left));
          some = (t.reads, subst (λ (k : ℕ). t.left k t.reads) (answers ∙ sym one) (now.counts_now t.reads now.reads_now), subst (λ (g : History). Stands (full_of g) t.reads) (sym whole) (run.here t.reads now.reads_now));
        },
        tt,
      );
    }
  where
    new_image : (i : List ℕ) → t.left (s.marks.answers + 1) i → Stands (full_of h) i
    new_image i left = ⊎_elim (λ was. absurd (omega (arith, before.none_above (s.marks.answers + 1) i was))) (λ added. ⊎_elim (λ at. absurd (omega (arith, at.0))) (λ at. at.1) added) (a.ended.adds (s.marks.answers + 1) i left)
