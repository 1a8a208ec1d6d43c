-- A line that doesn't reach the card takes a turn of the small world.
use Rattle.std.proofs.Common.{◌≡◌, inl, ℕ, Bool, true, false, List, Option, None, Result, Ok, Err, refl, sym, ◌∙◌, ap, subst}
use Rattle.std.specs.Prelude.{◌&&◌, ◌||◌, is_some}
use Rattle.std.proofs.lemmas.Bool.{false≢true}
use Rattle.chip_port.specs.Seen.{Seen}
use Rattle.small_card.specs.declared.types.Command.{Command}
use Rattle.iot_schedule.specs.declared.types.Line.{Line}
use Rattle.small_world.specs.Lines.{acted}
use Rattle.small_world.specs.Runs.{MayTurn, given, is_boot, steps_card}
use Rattle.small_world.specs.Stretches.{Fate, fate_of, is_far, is_costly, is_cut}
use Rattle.small_world.specs.Worlds.{SmallWorld}
use Rattle.small_world.proofs.Reaching.{nothing_reaches}
use Rattle.world_card.specs.Benches.{IsOnBench}
use Rattle.world_card.specs.Counts.{Counted}
use Rattle.world_card.proofs.Counting.{still, idle_counted}
use Rattle.world_card.proofs.Same.{same_card}
use Rattle.iot_world.specs.Quiet.{QuietEnd}
use Rattle.iot_world.specs.Steps.{Acts, turn}
use Rattle.iot_world.specs.declared.ends.Halt.{Halt}
use Rattle.iot_world.specs.declared.ends.Halt.TheVariants.{Limit, Foreign, NoMemory}
use Rattle.iot_world.specs.declared.world.World.{World}

-- a line that gives no command, is no boot and plans no cut
pub record IsIdleLine (w : SmallWorld) (l : Line) : Type 0 where
  pub gives_none : given w l ≡ None
  pub no_boot : is_boot l ≡ false
  pub no_cut : is_cut l ≡ false

idle_steps : (w : SmallWorld) (l : Line) → IsIdleLine w l → steps_card w l ≡ false
unfolding steps_card
idle_steps w l i =
    ap (λ (o : Option Command). (w.lit && is_some o) || is_boot l) i.gives_none ∙ ap (λ (b : Bool). (w.lit && false) || b) i.no_boot ∙ by_power w.lit
  where
    by_power : (b : Bool) → (b && false) || false ≡ false
    by_power true = refl
    by_power false = refl

idle_may : (w : SmallWorld) (l : Line) → IsIdleLine w l → MayTurn w (turn l false false)
idle_may w l i = record { lost = λ is. absurd (false≢true is); due = λ due steps. absurd (false≢true (sym (idle_steps w l i) ∙ steps)); taken = λ is. absurd (false≢true is) }

idle_fate : (w : SmallWorld) (l : Line) → IsIdleLine w l → record { lost = false; unplanned = is_far w.plan; marked = false; costly = is_costly l; planned = false } ≡ fate_of w (turn l false false)
unfolding fate_of
idle_fate w l i =
    ap (λ (b : Bool). record { lost = false; unplanned = is_far w.plan; marked = b && true; costly = is_costly l; planned = false }) (sym (idle_steps w l i))
    ∙ ap (λ (b : Bool). record { lost = false; unplanned = is_far w.plan; marked = steps_card w l && true; costly = is_costly l; planned = b }) (sym i.no_cut)

pub quiet : (first : ℕ) (l : Line) (w : SmallWorld) (result : Result (Unit {0}) Halt) (v : World) (s : Seen) (before out : List ℕ) → IsIdleLine w l → IsOnBench first v.card s w → QuietEnd l w result v.network before out → Acts first l w result v s s before out
quiet first l w (Ok done) v s before out i on q = record {
  lost = false;
  taken = false;
  may = idle_may w l i;
  says = q.says;
  stands = record { network = q.network; card = same_card first v.card s w (acted l false false w) (nothing_reaches w l false false i.gives_none i.no_boot i.no_cut) on };
  counts = subst (λ (f : Fate). Counted f s s) (idle_fate w l i) (still (is_far w.plan) (is_costly l) s);
  woken = λ boot. absurd (false≢true (sym i.no_boot ∙ boot));
}
quiet first l w (Err Limit) v s before out i on q = record { over = q; bench = inl (record { holds = on.bench; plan = on.plan; counts = idle_counted (is_far w.plan) s }) }
quiet first l w (Err Foreign) v s before out i on q = absurd q
quiet first l w (Err NoMemory) v s before out i on q = inl (record { holds = on.bench; counts = idle_counted (is_far w.plan) s })
