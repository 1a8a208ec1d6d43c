-- What a bench keeps of a run as lines follow.
use Rattle.std.proofs.Common.{◌≡◌, ◌≤◌, ℕ, ◌+◌, Bool, true, false, not, cond, List, [], ◌∷◌, length, refl, ap, sym, subst, ◌∙◌, arith}
use Rattle.std.specs.Prelude.{◌&&◌}
use Rattle.std.proofs.lemmas.Bool.{false≢true}
use Rattle.chip_port.specs.Seen.{Seen}
use Rattle.small_card.specs.Histories.{full_of}
use Rattle.iot_schedule.specs.declared.types.Device.{Device}
use Rattle.modem_bank.specs.Modems.{Seen as ModemSeen}
use Rattle.small_world.specs.Runs.{Turn, is_boot, steps_card, after_turn, world_after}
use Rattle.small_world.specs.Lines.{attended}
use Rattle.small_world.specs.Stretches.{Fate, fate_of, fates}
use Rattle.small_world.specs.Worlds.{SmallWorld, start_world}
use Rattle.small_world.proofs.Counting.{acted_more}
use Rattle.world_card.specs.Benches.{HoldsWorld}
use Rattle.world_card.specs.Boots.{IsWokenFor}
use Rattle.world_card.specs.Counts.{Counted, KeepsPast, answered_fate}
use Rattle.small_world.proofs.Leaving.{boots_step}
use Rattle.world_forms.specs.Keeping.{AreShown, IsKept}
use Rattle.world_forms.proofs.Losses.{counted_first, counted_more}

marks_or : (b : Bool) (n m : ℕ) → m ≡ cond b 1 0 + n → n ≤ m
marks_or true n m e = omega (arith, e)
marks_or false n m e = omega (arith, e)

one_more : (b : Bool) (n m : ℕ) → b ≡ true → m ≡ cond b 1 0 + n → m ≡ n + 1
one_more true n m is e = omega (arith, e)
one_more false n m is e = absurd (false≢true is)

turn_marks : (w : SmallWorld) (t : Turn) → length (after_turn w t).marks ≡ cond (steps_card w t.line && not t.lost) 1 0 + length w.marks
unfolding after_turn attended
turn_marks w t = acted_more w t.line t.lost t.taken

-- marks never get fewer
marks_rise : (start : SmallWorld) (turn : Turn) (ts : List Turn) → length (world_after start ts).marks ≤ length (world_after start (turn ∷ ts)).marks
unfolding world_after
marks_rise start turn ts =
    let w : SmallWorld = world_after start ts in
    marks_or (steps_card w turn.line && not turn.lost) (length w.marks) (length (after_turn w turn).marks) (turn_marks w turn)

-- a boot that isn't lost makes one
boot_mark : (start : SmallWorld) (turn : Turn) (ts : List Turn) → is_boot turn.line ≡ true → turn.lost ≡ false → length (world_after start (turn ∷ ts)).marks ≡ length (world_after start ts).marks + 1
unfolding world_after
boot_mark start turn ts boot kept =
    let w : SmallWorld = world_after start ts in
    let more : length (after_turn w turn).marks ≡ cond (steps_card w turn.line && not turn.lost) 1 0 + length w.marks = turn_marks w turn in
    let marked : (steps_card w turn.line && not turn.lost) ≡ true = rw (boots_step w turn.line boot) (rw kept refl) in
    one_more (steps_card w turn.line && not turn.lost) (length w.marks) (length (after_turn w turn).marks) marked more

shown_past : (first : ℕ) (start : SmallWorld) (ts : List Turn) (t u : Seen) → KeepsPast t.marks u.marks → first + length (world_after start ts).marks ≤ t.marks.answers + 1 → AreShown first start ts t → AreShown first start ts u
shown_past first start [] t u past few shown = tt
shown_past first start (turn ∷ ts) t u past few shown =
    let before = marks_rise start turn ts in (
      λ boot kept.
          let one = boot_mark start turn ts boot kept in
          let at = shown.0 boot kept in
          let same = past (first + length (world_after start ts).marks) (omega (arith, one, few)) in
          record { image = at.image; woke = same.2 ∙ at.woke; stands = at.stands },
      shown_past first start ts t u past (omega (arith, before, few)) shown.1,
    )

-- what boots showed stays as answers follow
pub shown_more : (first : ℕ) (start : SmallWorld) (ts : List Turn) (t u : Seen) → KeepsPast t.marks u.marks → t.marks.answers + 1 ≡ first + length (world_after start ts).marks → AreShown first start ts t → AreShown first start ts u
shown_more first start ts t u past same shown = shown_past first start ts t u past (omega (arith, same)) shown

-- the newest turn shows the card too, where it is a boot that made a mark
pub shown_turn : (first : ℕ) (start : SmallWorld) (turn : Turn) (ts : List Turn) (u : Seen) → (is_boot turn.line ≡ true → turn.lost ≡ false → IsWokenFor (full_of (world_after start (turn ∷ ts)).history) u)
    → u.marks.answers + 1 ≡ first + length (world_after start (turn ∷ ts)).marks → AreShown first start ts u → AreShown first start (turn ∷ ts) u
shown_turn first start turn ts u woken same shown = (
  λ boot kept.
      let one = boot_mark start turn ts boot kept in
      let newest : u.marks.answers ≡ first + length (world_after start ts).marks = omega (arith, one, same) in
      let w = woken boot kept in
      record { image = w.image; woke = ap (λ (n : ℕ). u.marks.woke n) (sym newest) ∙ w.woke; stands = w.stands },
  shown,
)

pub kept_first : (s t : Seen) (d : Device) (handed_in : List ModemSeen) → Counted (answered_fate true) s t → HoldsWorld (s.marks.answers + 1) t (start_world d handed_in) → IsKept s t (start_world d handed_in) [] (start_world d handed_in) []
kept_first s t d handed_in counts holds = record { holds = holds; boots = tt; counted = counted_first s t counts }

-- the bench holds the last world of the turns, so its newest mark is that of its newest answer
answers_are : (s t : Seen) (start : SmallWorld) (ts : List Turn) (w : SmallWorld) (fs : List Fate) → w ≡ world_after start ts → IsKept s t start ts w fs → t.marks.answers + 1 ≡ (s.marks.answers + 1) + length (world_after start ts).marks
answers_are s t start ts w fs same k = k.holds.holds.answers ∙ ap (λ (v : SmallWorld). (s.marks.answers + 1) + length v.marks) same

-- a turn more
pub kept_turn : (s t u : Seen) (start : SmallWorld) (turn : Turn) (ts : List Turn) (w : SmallWorld) → w ≡ world_after start ts → IsKept s t start ts w (fates start ts) → Counted (fate_of w turn) t u
    → HoldsWorld (s.marks.answers + 1) u (after_turn w turn) → (is_boot turn.line ≡ true → turn.lost ≡ false → IsWokenFor (full_of (after_turn w turn).history) u)
    → IsKept s u start (turn ∷ ts) (after_turn w turn) (fates start (turn ∷ ts))
unfolding world_after fates
kept_turn s t u start turn ts w same k counts holds woken =
    let first = s.marks.answers + 1 in
    let before = shown_more first start ts t u counts.past (answers_are s t start ts w (fates start ts) same k) k.boots in
    let after : after_turn w turn ≡ after_turn (world_after start ts) turn = ap (λ (v : SmallWorld). after_turn v turn) same in
    record {
      holds = holds;
      boots = shown_turn first start turn ts u (λ boot kept. subst (λ (v : SmallWorld). IsWokenFor (full_of v.history) u) after (woken boot kept))
          (holds.holds.answers ∙ ap (λ (v : SmallWorld). first + length v.marks) after) before;
      counted = counted_more s t u (fate_of (world_after start ts) turn) (fates start ts) k.counted (subst (λ (v : SmallWorld). Counted (fate_of v turn) t u) same counts);
    }

-- the same of the last world of these turns
pub kept_after : (s t u : Seen) (start : SmallWorld) (turn : Turn) (ts : List Turn) (w : SmallWorld) → w ≡ world_after start ts → IsKept s t start ts w (fates start ts) → Counted (fate_of w turn) t u
    → HoldsWorld (s.marks.answers + 1) u (after_turn w turn) → (is_boot turn.line ≡ true → turn.lost ≡ false → IsWokenFor (full_of (after_turn w turn).history) u)
    → IsKept s u start (turn ∷ ts) (world_after start (turn ∷ ts)) (fates start (turn ∷ ts))
unfolding world_after
kept_after s t u start turn ts w same k counts holds woken =
    subst (λ (v : SmallWorld). IsKept s u start (turn ∷ ts) (after_turn v turn) (fates start (turn ∷ ts))) same (kept_turn s t u start turn ts w same k counts holds woken)

-- a line was begun, and it is no turn
pub kept_short : (s t u : Seen) (start : SmallWorld) (ts : List Turn) (w w' : SmallWorld) (f : Fate) (fs : List Fate) → w ≡ world_after start ts → IsKept s t start ts w fs → HoldsWorld (s.marks.answers + 1) u w' → Counted f t u
    → IsKept s u start ts w' (f ∷ fs)
kept_short s t u start ts w w' f fs same k holds counts = record {
  holds = holds;
  boots = shown_more (s.marks.answers + 1) start ts t u counts.past (answers_are s t start ts w fs same k) k.boots;
  counted = counted_more s t u f fs k.counted counts;
}
