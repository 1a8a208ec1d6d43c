-- What stands after a line gave the card a command that nobody carries.
use Rattle.std.proofs.Common.{◌≡◌, inl, inr, ℕ, Bool, true, false, cond, List, ◌++◌, Result, Ok, Err, refl, sym, ◌∙◌, ap, subst}
use Rattle.std.specs.Prelude.{not, ◌&&◌}
use Rattle.std.proofs.lemmas.Bool.{false≢true}
use Rattle.chip_port.specs.Seen.{Seen, is_due}
use Rattle.small_card.specs.declared.types.Answer.{Answer}
use Rattle.small_card.specs.declared.types.Command.{Command}
use Rattle.small_world.specs.Printing.{replied, step_text}
use Rattle.small_world.specs.Stepping.{commanded, lost_step, answered_step}
use Rattle.small_world.specs.Stretches.{Fate, is_far}
use Rattle.small_world.specs.Texts.{said, lost_text, off}
use Rattle.small_world.specs.Worlds.{SmallWorld}
use Rattle.world_card.specs.Commands.{IsAnswered, IsLost, IsIdle}
use Rattle.world_card.specs.Counts.{Counted, short_fate}
use Rattle.world_network.specs.Networks.{IsNetwork}
use Rattle.iot_world.specs.Asking.{Says, command_fate}
use Rattle.iot_world.specs.Commanding.{Commands, MayLose, fate_in}
use Rattle.iot_world.specs.Worlds.{StandsFor}
use Rattle.iot_world.specs.declared.ends.Halt.{Halt}
use Rattle.iot_world.specs.declared.ends.Halt.TheVariants.{Limit, Foreign, NoMemory}
use Rattle.iot_world.specs.declared.world.World.{World}
use Rattle.iot_world.proofs.Around.{commanded_around, around_network}
use Rattle.iot_world.proofs.Heard.{stepped_answered, stepped_lost}

-- the counts of a lit card's step, and of a dark card
pub lit_fate : (w : SmallWorld) (lost : Bool) → w.lit ≡ true → command_fate lost (is_far w.plan) ≡ fate_in w lost
lit_fate w lost lit = ap (λ (b : Bool). record { lost = lost; unplanned = is_far w.plan; marked = b && not lost; costly = true; planned = false }) (sym lit)

pub dark_fate : (w : SmallWorld) → w.lit ≡ false → short_fate (is_far w.plan) ≡ fate_in w false
dark_fate w dark = ap (λ (b : Bool). record { lost = false; unplanned = is_far w.plan; marked = b && true; costly = true; planned = false }) (sym dark)

pub lit_says : (w : SmallWorld) (lost : Bool) (text : List ℕ) → w.lit ≡ true → cond lost lost_text text ≡ step_text w lost text
lit_says w lost text lit = ap (λ (b : Bool). cond b (cond lost lost_text text) off) (sym lit)

pub dark_says : (w : SmallWorld) (lost : Bool) (text : List ℕ) → w.lit ≡ false → off ≡ step_text w lost text
dark_says w lost text dark = ap (λ (b : Bool). cond b (cond lost lost_text text) off) (sym dark)

pub lit_loses : (w : SmallWorld) (lost : Bool) → w.lit ≡ true → (is_due w.plan ≡ true → lost ≡ true) → MayLose w lost
lit_loses w lost lit due = record { lit = λ is. lit; due = λ is at. due is }

pub dark_loses : (w : SmallWorld) → w.lit ≡ false → MayLose w false
dark_loses w dark = record { lit = λ is. absurd (false≢true is); due = λ is at. absurd (false≢true (sym dark ∙ at)) }

pub dark_commanded : (c : Command) (lost : Bool) (w : SmallWorld) → w.lit ≡ false → commanded c lost w ≡ w
unfolding commanded
dark_commanded c lost w dark = ap (λ (b : Bool). cond b (cond lost (lost_step c w) (answered_step c w)) w) dark

pub replied_to : (first : ℕ) (w : SmallWorld) (c : Command) (a : Answer) (result : Result (Unit {0}) Halt) (v : World) (s t : Seen) (before out : List ℕ) → IsNetwork v.network w → IsAnswered first w c a v.card s t → Says (said c a) before out result
    → Commands first w c result v s t before out
replied_to first w c a (Ok done) v s t before out n d says = record {
  lost = false;
  may = lit_loses w false d.lit (stepped_answered first w c a v.card s t d).due;
  says = says ∙ ap (λ (x : Answer). before ++ said c x) d.reply_is ∙ ap (λ (x : List ℕ). before ++ x) (lit_says w false (replied w c) d.lit);
  stands = record { network = around_network v.network w (commanded c false w) (commanded_around c false w) n; card = d.stands };
  counts = subst (λ (f : Fate). Counted f s t) (lit_fate w false d.lit) d.counts;
}
replied_to first w c a (Err Limit) v s t before out n d says = says
replied_to first w c a (Err Foreign) v s t before out n d says = says
replied_to first w c a (Err NoMemory) v s t before out n d says = inr (record { lost = false; stepped = stepped_answered first w c a v.card s t d })

pub lost_to : (first : ℕ) (w : SmallWorld) (c : Command) (result : Result (Unit {0}) Halt) (v : World) (s t : Seen) (before out : List ℕ) → IsNetwork v.network w → IsLost first w c v.card s t → Says lost_text before out result → Commands first w c result v s t before out
lost_to first w c (Ok done) v s t before out n d says = record {
  lost = true;
  may = lit_loses w true d.lit (λ due. refl);
  says = says ∙ ap (λ (x : List ℕ). before ++ x) (lit_says w true (replied w c) d.lit);
  stands = record { network = around_network v.network w (commanded c true w) (commanded_around c true w) n; card = d.stands };
  counts = subst (λ (f : Fate). Counted f s t) (lit_fate w true d.lit) d.counts;
}
lost_to first w c (Err Limit) v s t before out n d says = says
lost_to first w c (Err Foreign) v s t before out n d says = says
lost_to first w c (Err NoMemory) v s t before out n d says = inr (record { lost = true; stepped = stepped_lost first w c v.card s t d })

pub off_to : (first : ℕ) (w : SmallWorld) (c : Command) (result : Result (Unit {0}) Halt) (v : World) (s t : Seen) (before out : List ℕ) → IsNetwork v.network w → IsIdle first w v.card t → Counted (short_fate (is_far w.plan)) s t → Says off before out result → Commands first w c result v s t before out
off_to first w c (Ok done) v s t before out n d same says = record {
  lost = false;
  may = dark_loses w d.dark;
  says = says ∙ ap (λ (x : List ℕ). before ++ x) (dark_says w false (replied w c) d.dark);
  stands = subst (λ (x : SmallWorld). StandsFor first v t x) (sym (dark_commanded c false w d.dark)) (record { network = n; card = d.stands });
  counts = subst (λ (f : Fate). Counted f s t) (dark_fate w d.dark) same;
}
off_to first w c (Err Limit) v s t before out n d same says = says
off_to first w c (Err Foreign) v s t before out n d same says = says
off_to first w c (Err NoMemory) v s t before out n d same says = inl (record { holds = d.stands.bench; counts = same })
