-- A line that gives the card a command takes a turn of the small world.
use Rattle.std.proofs.Common.{◌≡◌, ⊎_elim, inl, inr, ℕ, Bool, true, false, List, ◌++◌, Option, Result, Ok, Err, refl, sym, ◌∙◌, ap, subst}
use Rattle.std.specs.Prelude.{not, ◌&&◌, ◌||◌, is_some}
use Rattle.std.proofs.lemmas.Bool.{false≢true}
use Rattle.chip_port.specs.Seen.{Seen}
use Rattle.small_card.specs.declared.types.Command.{Command}
use Rattle.iot_schedule.specs.declared.types.Line.{Line}
use Rattle.small_world.specs.Lines.{acted}
use Rattle.small_world.specs.Printing.{printed, replied, step_text}
use Rattle.small_world.specs.Runs.{MayTurn, is_boot, steps_card}
use Rattle.small_world.specs.Stepping.{commanded}
use Rattle.small_world.specs.Stretches.{Fate, fate_of, is_far, is_costly}
use Rattle.small_world.specs.Worlds.{SmallWorld}
use Rattle.world_card.specs.Benches.{HoldsWorld}
use Rattle.world_card.specs.Counts.{Counted}
use Rattle.iot_world.specs.Carrying.{Gives}
use Rattle.iot_world.specs.Commanding.{Commands, MayLose, fate_in}
use Rattle.iot_world.specs.Steps.{Acts, IsActed, IsActedShort, turn}
use Rattle.iot_world.specs.Worlds.{StandsFor}
use Rattle.iot_world.specs.declared.ends.Halt.{Halt}
use Rattle.iot_world.specs.declared.ends.Halt.TheVariants.{Limit, Foreign, NoMemory}
use Rattle.iot_world.specs.declared.world.World.{World}
use Rattle.iot_world.proofs.Replied.{lit_fate, lit_loses}

-- it steps the card exactly where the card is lit
steps_lit : (w : SmallWorld) (l : Line) (c : Command) → Gives w l c → steps_card w l ≡ w.lit
unfolding steps_card
steps_lit w l c g =
    ap (λ (o : Option Command). (w.lit && is_some o) || is_boot l) g.is ∙ ap (λ (b : Bool). (w.lit && true) || b) g.no_boot ∙ by_power w.lit
  where
    by_power : (b : Bool) → (b && true) || false ≡ b
    by_power true = refl
    by_power false = refl

pub may_turn : (w : SmallWorld) (l : Line) (c : Command) (lost : Bool) → Gives w l c → MayLose w lost → MayTurn w (turn l lost false)
may_turn w l c lost g may =
    let lit = steps_lit w l c g in record {
      lost = λ is. lit ∙ may.lit is;
      due = λ due steps. may.due due (sym lit ∙ steps);
      taken = λ is. absurd (false≢true is);
    }

pub fate_is : (w : SmallWorld) (l : Line) (c : Command) (lost : Bool) → Gives w l c → fate_in w lost ≡ fate_of w (turn l lost false)
unfolding fate_of
fate_is w l c lost g =
    let far = is_far w.plan in
    ap (λ (b : Bool). record { lost = lost; unplanned = far; marked = b && not lost; costly = true; planned = false }) (sym (steps_lit w l c g))
    ∙ ap (λ (b : Bool). record { lost = lost; unplanned = far; marked = steps_card w l && not lost; costly = b; planned = false }) (sym g.costs)
    ∙ ap (λ (b : Bool). record { lost = lost; unplanned = far; marked = steps_card w l && not lost; costly = is_costly l; planned = b }) (sym g.no_cut)

pub turned : (first : ℕ) (l : Line) (c : Command) (lost : Bool) (w : SmallWorld) (v : World) (s t : Seen) (before out : List ℕ) → Gives w l c → MayLose w lost → out ≡ before ++ printed w l lost → StandsFor first v t (acted l lost false w)
    → Counted (fate_in w lost) s t → IsActed first l w v s t before out
turned first l c lost w v s t before out g may says stands counts = record {
  lost = lost;
  taken = false;
  may = may_turn w l c lost g may;
  says = says;
  stands = stands;
  counts = subst (λ (f : Fate). Counted f s t) (fate_is w l c lost g) counts;
  woken = λ boot. absurd (false≢true (sym g.no_boot ∙ boot));
}

pub turned_short : (first : ℕ) (l : Line) (c : Command) (lost : Bool) (w : SmallWorld) (s t : Seen) → Gives w l c → MayLose w lost → HoldsWorld first t (acted l lost false w) → Counted (fate_in w lost) s t → IsActedShort first l w s t
turned_short first l c lost w s t g may holds counts = record {
  lost = lost;
  taken = false;
  may = may_turn w l c lost g may;
  holds = holds;
  counts = subst (λ (f : Fate). Counted f s t) (fate_is w l c lost g) counts;
  woken = λ boot. absurd (false≢true (sym g.no_boot ∙ boot));
}

-- a command that nobody carries
pub record IsDirect (w : SmallWorld) (l : Line) (c : Command) : Type 0 where
  pub gives : Gives w l c
  pub does : (lost : Bool) → acted l lost false w ≡ commanded c lost w
  pub prints : (lost : Bool) → printed w l lost ≡ step_text w lost (replied w c)

pub direct : (first : ℕ) (l : Line) (c : Command) (w : SmallWorld) (result : Result (Unit {0}) Halt) (v : World) (s t : Seen) (before out : List ℕ) → IsDirect w l c → Commands first w c result v s t before out → Acts first l w result v s t before out
direct first l c w (Ok done) v s t before out d e =
    turned first l c e.lost w v s t before out d.gives e.may (e.says ∙ ap (λ (x : List ℕ). before ++ x) (sym (d.prints e.lost))) (subst (λ (x : SmallWorld). StandsFor first v t x) (sym (d.does e.lost)) e.stands) e.counts
direct first l c w (Err Limit) v s t before out d e = absurd e
direct first l c w (Err Foreign) v s t before out d e = e
direct first l c w (Err NoMemory) v s t before out d e =
    ⊎_elim inl
    (λ off. inr (turned_short first l c off.lost w s t d.gives (lit_loses w off.lost off.stepped.lit off.stepped.due) (subst (λ (x : SmallWorld). HoldsWorld first t x) (sym (d.does off.lost)) off.stepped.holds)
    (subst (λ (f : Fate). Counted f s t) (lit_fate w off.lost off.stepped.lit) off.stepped.counts))) e
