-- Whether a turn is one that its line leaves, as a test.
use Rattle.std.proofs.Common.{◌≡◌, Bool, true, false, not, List, [], ◌∷◌}
use Rattle.std.specs.Prelude.{◌&&◌, ◌||◌, is_some}
use Rattle.std.proofs.lemmas.Bool.{and_parts, false≢true, not-true}
use Rattle.chip_port.specs.Seen.{is_due}
use Rattle.small_world.specs.Examples.{MayPlay}
use Rattle.small_world.specs.Runs.{Turn, is_boot, steps_card, MayTake, MayTurn, after_turn}
use Rattle.small_world.specs.Stepping.{attempt}
use Rattle.small_world.specs.Worlds.{SmallWorld}

-- where the first holds, the second does
abbrev pub implies : Bool → Bool → Bool
implies a b = not a || b

implied : (a b : Bool) → implies a b ≡ true → a ≡ true → b ≡ true
implied true b e k = e
implied false b e k = absurd (false≢true k)

abbrev pub may_take : SmallWorld → Turn → Bool
may_take w t = is_boot t.line && (not w.lit && (is_some (attempt w.marks) && not t.lost))

abbrev pub may_turn : SmallWorld → Turn → Bool
may_turn w t = implies t.lost (steps_card w t.line) && (implies (is_due w.plan) (implies (steps_card w t.line) t.lost) && implies t.taken (may_take w t))

unfoldable pub may_play : SmallWorld → List Turn → Bool
may_play w [] = true
may_play w (t ∷ ts) = may_turn w t && may_play (after_turn w t) ts

takes : (w : SmallWorld) (t : Turn) → may_take w t ≡ true → MayTake w t
takes w t e =
    let a = and_parts (is_boot t.line) (not w.lit && (is_some (attempt w.marks) && not t.lost)) e in
    let b = and_parts (not w.lit) (is_some (attempt w.marks) && not t.lost) a.1 in
    let c = and_parts (is_some (attempt w.marks)) (not t.lost) b.1 in
    record { boot = a.0; dark = not-true w.lit b.0; there = c.0; answered = not-true t.lost c.1 }

turns : (w : SmallWorld) (t : Turn) → may_turn w t ≡ true → MayTurn w t
turns w t e =
    let a = and_parts (implies t.lost (steps_card w t.line)) (implies (is_due w.plan) (implies (steps_card w t.line) t.lost) && implies t.taken (may_take w t)) e in
    let b = and_parts (implies (is_due w.plan) (implies (steps_card w t.line) t.lost)) (implies t.taken (may_take w t)) a.1 in
    record {
      lost = implied t.lost (steps_card w t.line) a.0;
      due = λ d s. implied (steps_card w t.line) t.lost (implied (is_due w.plan) (implies (steps_card w t.line) t.lost) b.0 d) s;
      taken = λ k. takes w t (implied t.taken (may_take w t) b.1 k);
    }

pub plays : (w : SmallWorld) (ts : List Turn) → may_play w ts ≡ true → MayPlay w ts
unfolding may_play MayPlay
plays w [] e = tt
plays w (t ∷ ts) e =
    let a = and_parts (may_turn w t) (may_play (after_turn w t) ts) e in
    (turns w t a.0, plays (after_turn w t) ts a.1)
