-- What the calls of a card make of a chip that rests.
use Rattle.std.proofs.Common.{◌≡◌, inl, ℕ, ◌+◌, true, false, List, ◌∷◌, Option, Some, None, refl, sym, subst, ap, ◌∙◌}
use Rattle.chip_port.specs.Seen.{Seen}
use Rattle.chip_port.specs.Rules.{Sound, IfTold, Untouched}
use Rattle.chip_port.specs.Runs.{Ran, Went}
use Rattle.small_card.specs.Units.{CardUnit}
use Rattle.small_card.specs.Histories.{History, full_of}
use Rattle.small_card.specs.declared.types.Command.{Command}
use Rattle.package_codec.specs.Replies.{unit_of, after}
use Rattle.undo_journal.specs.Home.{is_open}
use Rattle.card_store.specs.Standing.{Stands}
use Rattle.card_store.specs.Looking.{Looks}
use Rattle.card_store.specs.Holding.{Mark, Holds, IsHeld, StandsAt, standing, tried}
use Rattle.card_store.proofs.Holding.{loss_held}
use Rattle.card_store.proofs.Looking.{untouched_looks}
use Rattle.euicc_core.specs.Answers.{Answers}
use Rattle.euicc_core.proofs.Kept.{step_held, look_held, first_held}
use Rattle.lone_card.specs.Marks.{opened}
use Rattle.lone_card.specs.Benches.{HoldsFrom, IsSettledOn, Rests, IsTopped, GoesOn, BreaksOff}

-- a look leaves the chip at rest
looked_holds : (s t : Seen) (first : ℕ) (o : Option History) (marks : List Mark) → Looks 10000 s t → HoldsFrom s first o marks → HoldsFrom t first o marks
looked_holds s t first (Some h) marks l holds = look_held s t 10000 first h marks l holds
looked_holds s t first None marks l holds = ap (λ m. m.answers + 1) l.keeps.marks ∙ holds

looked_settled : (s t : Seen) (o : Option History) → Looks 10000 s t → IsSettledOn o s → IsSettledOn o t
looked_settled s t (Some h) l settled = record {
  alone = λ i now. settled.alone i ((l.keeps.leaves i).1 now) ∙ sym l.keeps.reads;
  shut = subst (λ (i : List ℕ). is_open i ≡ false) (sym l.keeps.reads) settled.shut;
  stands = subst (λ (i : List ℕ). Stands (full_of h) i) (sym l.keeps.reads) settled.stands;
}
looked_settled s t None l settled = tt

pub looked : (s t : Seen) (o : Option History) → Looks 10000 s t → GoesOn o o (λ marks. marks) s t
unfolding Went
looked s t o l = record {
  calls = l.went;
  rests = λ first marks top at. record { holds = looked_holds s t first o marks l at.holds; settled = looked_settled s t o l at.settled };
}

pub untouched : (s : Seen) → Untouched (λ t. t) s s
untouched s = record {
  told = refl;
  faults = refl;
  keeps = record { reads = refl; leaves = λ i. (λ was. was, λ was. was); marks = refl };
  left = λ k i. (λ was. was, λ was. was);
  tally_is = refl;
}

-- no call
pub stayed : (s t : Seen) (o : Option History) → s.told ≡ true → Untouched (λ c. c) s t → GoesOn o o (λ marks. marks) s t
stayed s t o told u = looked s t o (untouched_looks 10000 s t told u)

-- the chip holds the history, with nothing in progress
held_at : (s : Seen) (first : ℕ) (h : History) (marks older : List Mark) (u : Option CardUnit) → s.told ≡ true → marks ≡ standing h ∷ older → Holds s first h marks → IsHeld s first h (standing h) older u
held_at s first h marks older u told same holds = record {
  told = told;
  holds = subst (λ (m : List Mark). Holds s first h m) same holds;
  all = refl;
  attempt = inl refl;
}

-- an answered command
answered_rests : (s t : Seen) (first : ℕ) (h : History) (c : Command) (marks : List Mark) → Sound 346624 s → Sound 346624 t → s.told ≡ true → Answers (StandsAt h (unit_of h c)) (full_of (after h c)) s t
    → IsTopped (Some h) marks → Rests s first (Some h) marks → Rests t first (Some (after h c)) (standing (after h c) ∷ tried (unit_of h c) marks)
unfolding tried
answered_rests s t first h c marks before now told a top at =
    let held = held_at s first h marks top.0 (unit_of h c) told top.1 at.holds in
    record {
      holds = subst (λ (m : List Mark). Holds t first (after h c) (standing (after h c) ∷ tried (unit_of h c) m)) (sym top.1) (step_held s t first h c (standing h) top.0 before now held a);
      settled = a.settled;
    }

-- a command whose step was lost
lost_holds : (s t : Seen) (first : ℕ) (h : History) (u : Option CardUnit) (marks : List Mark) → Sound 346624 s → s.told ≡ true → Ran 10000 false (StandsAt h u) s t
    → IsTopped (Some h) marks → Rests s first (Some h) marks → Holds t first h (tried u marks)
unfolding tried
lost_holds s t first h u marks before told r top at =
    let held = held_at s first h marks top.0 u told top.1 at.holds in
    subst (λ (m : List Mark). Holds t first h (tried u m)) (sym top.1) (loss_held s t first 10000 false h (standing h) top.0 u held r)

pub answered : (s t : Seen) (h : History) (c : Command) → Sound 346624 s → Sound 346624 t → s.told ≡ true → Answers (StandsAt h (unit_of h c)) (full_of (after h c)) s t
    → GoesOn (Some h) (Some (after h c)) (λ marks. standing (after h c) ∷ tried (unit_of h c) marks) s t
answered s t h c before now told a = record { calls = a.ended.went; rests = λ first marks top at. answered_rests s t first h c marks before now told a top at }

pub lost : (s t : Seen) (h : History) (u : Option CardUnit) → Sound 346624 s → s.told ≡ true → Ran 10000 false (StandsAt h u) s t → BreaksOff (Some h) u s t
lost s t h u before told r = record { calls = r.went; holds = λ first marks top at. lost_holds s t first h u marks before told r top at }

pub first_rests : (s t : Seen) (P : List ℕ → Type 0) (h : History) → Sound 346624 s → Sound 346624 t → Answers P (full_of h) s t → Rests t (s.marks.answers + 1) (Some h) (opened (Some h))
first_rests s t P h before now a = record { holds = first_held s t P h before now a; settled = a.settled }

pub made : (s t : Seen) (P : List ℕ → Type 0) (h : History) → Sound 346624 s → Sound 346624 t → Answers P (full_of h) s t → GoesOn None (Some h) (λ marks. opened (Some h)) s t
made s t P h before now a = record {
  calls = a.ended.went;
  rests = λ first marks top at. subst (λ (n : ℕ). Rests t n (Some h) (opened (Some h))) at.holds (first_rests s t P h before now a);
}

pub unmade : (s t : Seen) (P : List ℕ → Type 0) → Ran 10000 false P s t → BreaksOff None None s t
unmade s t P r = record { calls = r.went; holds = λ first marks top at. ap (λ m. m.answers + 1) r.marks ∙ at.holds }

-- on a chip where no call was made
pub idle : (s : Seen) (o : Option History) → IfTold s (GoesOn o o (λ marks. marks) s s)
idle s o told = stayed s s o told (untouched s)
