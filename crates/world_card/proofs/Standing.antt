-- A bench goes on standing for a world where nothing but its plan changes.
use Rattle.std.proofs.Common.{◌≡◌, ◌⊎◌, ℕ, ◌+◌, Bool, true, false, cond, List, Option, Some, None, refl, sym, ◌∙◌, ap, subst}
use Rattle.chip_port.specs.Seen.{Seen, Tally, Marks}
use Rattle.chip_port.specs.Rules.{Untouched, Same, Keeps}
use Rattle.small_card.specs.Cards.{FullCard}
use Rattle.small_card.specs.Units.{CardUnit}
use Rattle.small_card.specs.Histories.{History, full_of}
use Rattle.undo_journal.specs.Home.{is_open}
use Rattle.card_store.specs.Standing.{Stands, IsSettled}
use Rattle.card_store.specs.Looking.{Looks}
use Rattle.card_store.specs.Holding.{Mark, Holds, IsHeld}
use Rattle.euicc_core.proofs.Kept.{marks_kept}
use Rattle.small_world.specs.Stepping.{attempt}
use Rattle.small_world.specs.Worlds.{SmallWorld}
use Rattle.world_card.specs.Benches.{HoldsWorld, IsNewest, held_in}

settled_as : (f : FullCard) (s t : Seen) → t.reads ≡ s.reads → ((i : List ℕ) → t.leaves i → s.leaves i) → IsSettled f s → IsSettled f t
settled_as f s t same fewer settled = record {
  alone = λ i now. settled.alone i (fewer i now) ∙ sym same;
  shut = subst (λ (i : List ℕ). is_open i ≡ false) (sym same) settled.shut;
  stands = subst (λ (i : List ℕ). Stands f i) (sym same) settled.stands;
}

-- the same content and marks, and what a cut leaves
pub kept_world : (first : ℕ) (s t : Seen) (w : SmallWorld) → t.told ≡ true → Keeps s t → ((k : ℕ) → Same (s.left k) (t.left k)) → t.tally.cut ≡ s.tally.cut → HoldsWorld first s w → HoldsWorld first t w
kept_world first s t w told keeps left power h = record {
  told = told;
  holds = record {
    answers = ap (λ (m : Marks). m.answers + 1) keeps.marks ∙ h.holds.answers;
    marked = marks_kept s t first w.history w.marks (λ k i was. (left k i).0 was) (λ k i now. (left k i).1 now) h.holds.marked;
  };
  lit = λ is. let p = h.lit is in record { settled = settled_as (full_of w.history) s t keeps.reads (λ i now. (keeps.leaves i).1 now) p.settled; powered = power ∙ p.powered };
  dark = λ is i now. h.dark is i ((keeps.leaves i).1 now);
}

pub untouched_world : (f : Tally → Tally) (first : ℕ) (s t : Seen) (w : SmallWorld) → ((x : Tally) → (f x).cut ≡ x.cut) → Untouched f s t → HoldsWorld first s w → HoldsWorld first t w
untouched_world f first s t w power u h = kept_world first s t w (u.told ∙ h.told) u.keeps u.left (ap (λ (x : Tally). x.cut) u.tally_is ∙ power s.tally) h

pub looked_world : (n first : ℕ) (s t : Seen) (w : SmallWorld) → Looks n s t → HoldsWorld first s w → HoldsWorld first t w
looked_world n first s t w l h = kept_world first s t w l.told l.keeps l.left l.went.cut h

-- the newest mark, and what is in progress
pub held_at : (s : Seen) (first : ℕ) (h : History) (marks : List Mark) (n : IsNewest h marks) (u : Option CardUnit) → s.told ≡ true → Holds s first h marks → (attempt marks ≡ None) ⊎ (attempt marks ≡ u) → IsHeld s first h n.mark n.older u
unfolding attempt
held_at s first h marks n u told holds either = record {
  told = told;
  holds = subst (λ (ms : List Mark). Holds s first h ms) n.newest holds;
  all = n.whole;
  attempt = subst (λ (ms : List Mark). (attempt ms ≡ None) ⊎ (attempt ms ≡ u)) n.newest either;
}

-- the card of a lit world, and of a dark one
pub lit_held : (w : SmallWorld) (held : Option FullCard) → held ≡ held_in w → w.lit ≡ true → held ≡ Some (full_of w.history)
lit_held w held is lit = is ∙ ap (λ b. cond {A = Option FullCard} b (Some (full_of w.history)) None) lit

pub dark_held : (w : SmallWorld) (held : Option FullCard) → held ≡ held_in w → w.lit ≡ false → held ≡ None
dark_held w held is dark = is ∙ ap (λ b. cond {A = Option FullCard} b (Some (full_of w.history)) None) dark

some_none : (f : FullCard) (held : Option FullCard) → held ≡ Some f → held ≡ None → ⊥
some_none f held some none = let same : Some f ≡ None = sym some ∙ none in absurd cc

pub lit_unless : (w : SmallWorld) (held : Option FullCard) → held ≡ held_in w → (held ≡ None → ⊥) → w.lit ≡ true
lit_unless w held is there = by_power w.lit refl
  where
    by_power : (b : Bool) → w.lit ≡ b → w.lit ≡ true
    by_power true e = e
    by_power false e = absurd (there (dark_held w held is e))

pub dark_if : (w : SmallWorld) (held : Option FullCard) → held ≡ held_in w → held ≡ None → w.lit ≡ false
dark_if w held is none = by_power w.lit refl
  where
    by_power : (b : Bool) → w.lit ≡ b → w.lit ≡ false
    by_power false e = e
    by_power true e = absurd (some_none (full_of w.history) held (lit_held w held is e) none)
