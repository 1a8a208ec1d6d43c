-- Lines of the card alone, and of its power, take turns of the small world.
use Rattle.std.proofs.Common.{◌≡◌, ◌⊎◌, inl, inr, ℕ, Bool, true, false, List, Option, Some, Result, Ok, Err, refl, sym, ◌∙◌, ap, subst, arith}
use Rattle.std.specs.Prelude.{not, ◌&&◌, ◌||◌, codes}
use Rattle.std.proofs.lemmas.Bool.{false≢true}
use Rattle.iot_bytes.specs.declared.memory.NoMemory.{NoMemory as Wanting}
use Rattle.chip_port.specs.Seen.{Seen}
use Rattle.chip_port.specs.declared.chip.Tear.{Tear}
use Rattle.small_card.specs.Cards.{FullCard}
use Rattle.small_card.specs.declared.types.Command.TheVariants as command
use Rattle.iot_schedule.specs.declared.types.Line.TheVariants as line
use Rattle.small_world.specs.Lines.{acted}
use Rattle.small_world.specs.Printing.{printed}
use Rattle.small_world.specs.Runs.{MayTurn, given, steps_card}
use Rattle.small_world.specs.Stepping.{attempt, booted}
use Rattle.small_world.specs.Stretches.{Fate, fate_of, is_far, is_costly, is_cut}
use Rattle.small_world.specs.Texts.{lost_text}
use Rattle.small_world.specs.Worlds.{SmallWorld}
use Rattle.world_card.specs.Boots.{IsBooted, IsLostBoot, IsBefore}
use Rattle.world_card.specs.Plans.{IsPlanned, Planned}
use Rattle.world_card.specs.Counts.{Counted, short_fate}
use Rattle.world_network.specs.Networks.{IsNetwork}
use Rattle.iot_world.specs.Asking.{Says}
use Rattle.iot_world.specs.Steps.{Acts, IsActedShort, turn}
use Rattle.iot_world.specs.declared.ends.Halt.{Halt}
use Rattle.iot_world.specs.declared.ends.Halt.TheVariants.{Limit, Foreign, NoMemory}
use Rattle.iot_world.specs.declared.world.World.{World}
use Rattle.iot_world.proofs.Around.{IsAround, around_network, grown_start}
use Rattle.iot_world.proofs.Turning.{IsDirect}

-- the first eIM, and a rollback
pub initial_direct : (w : SmallWorld) (id address key : List ℕ) → IsDirect w (line.Initial id address key) (command.Initial id address key)
unfolding given acted printed is_costly is_cut
initial_direct w id address key = record { gives = record { is = refl; no_boot = refl; costs = refl; no_cut = refl }; does = λ lost. refl; prints = λ lost. refl }

pub rollback_direct : (w : SmallWorld) → IsDirect w line.Rollback command.Rollback
unfolding given acted printed is_costly is_cut
rollback_direct w = record { gives = record { is = refl; no_boot = refl; costs = refl; no_cut = refl }; does = λ lost. refl; prints = λ lost. refl }

-- a boot steps the card
boot_steps : (w : SmallWorld) → steps_card w line.Boot ≡ true
unfolding steps_card given
boot_steps w = by_power w.lit
  where
    by_power : (b : Bool) → (b && false) || true ≡ true
    by_power true = refl
    by_power false = refl

boot_fate : (w : SmallWorld) (lost taken : Bool) → record { lost = lost; unplanned = is_far w.plan; marked = not lost; costly = true; planned = false } ≡ fate_of w (turn line.Boot lost taken)
unfolding fate_of is_costly is_cut
boot_fate w lost taken = ap (λ (b : Bool). record { lost = lost; unplanned = is_far w.plan; marked = b && not lost; costly = true; planned = false }) (sym (boot_steps w))

booted_around : (lost taken : Bool) (w : SmallWorld) → IsAround w (booted lost taken w)
unfolding booted
booted_around true taken w = record { eid = refl; assistant = refl; eims = refl; to_eims = refl; to_ipa = refl }
booted_around false true w = record { eid = ap (λ f. f.card.eid) (grown_start (attempt w.marks) w.history); assistant = refl; eims = refl; to_eims = refl; to_ipa = refl }
booted_around false false w = record { eid = refl; assistant = refl; eims = refl; to_eims = refl; to_ipa = refl }

may_boot : (first : ℕ) (w : SmallWorld) (held : Option FullCard) (s t : Seen) (b : IsBooted first w held s t) → MayTurn w (turn line.Boot false b.taken)
may_boot first w held s t b = record {
  lost = λ is. absurd (false≢true is);
  due = λ due steps. absurd (false≢true (sym b.not_due ∙ due));
  taken = λ is. let m = b.may is in record { boot = refl; dark = m.dark; there = m.there; answered = refl };
}

lit_boot : (w : SmallWorld) → MayTurn w (turn line.Boot true false)
lit_boot w = record { lost = λ is. boot_steps w; due = λ due steps. refl; taken = λ is. absurd (false≢true is) }

pub boots : (first : ℕ) (w : SmallWorld) (result : Result (Unit {0}) Halt) (v : World) (s t : Seen) (before out : List ℕ) → IsNetwork v.network w → IsBooted first w v.card s t → Says (codes "booted") before out result → Acts first line.Boot w result v s t before out
unfolding acted printed
boots first w (Ok done) v s t before out n b says = record {
  lost = false;
  taken = b.taken;
  may = may_boot first w v.card s t b;
  says = says;
  stands = record { network = around_network v.network w (booted false b.taken w) (booted_around false b.taken w) n; card = b.stands };
  counts = subst (λ (f : Fate). Counted f s t) (boot_fate w false b.taken) b.counts;
  woken = λ boot lost. b.woken;
}
boots first w (Err Limit) v s t before out n b says = absurd says
boots first w (Err Foreign) v s t before out n b says = says
boots first w (Err NoMemory) v s t before out n b says = inr (record {
  lost = false;
  taken = b.taken;
  may = may_boot first w v.card s t b;
  holds = b.stands.bench;
  counts = subst (λ (f : Fate). Counted f s t) (boot_fate w false b.taken) b.counts;
  woken = λ boot lost. b.woken;
})

pub boot_lost : (first : ℕ) (w : SmallWorld) (result : Result (Unit {0}) Halt) (v : World) (s t : Seen) (before out : List ℕ) → IsNetwork v.network w → IsLostBoot first w v.card s t → Says lost_text before out result → Acts first line.Boot w result v s t before out
unfolding acted printed
boot_lost first w (Ok done) v s t before out n b says = record {
  lost = true;
  taken = false;
  may = lit_boot w;
  says = says;
  stands = record { network = around_network v.network w (booted true false w) (booted_around true false w) n; card = b.stands };
  counts = subst (λ (f : Fate). Counted f s t) (boot_fate w true false) b.counts;
  woken = λ boot lost. absurd (false≢true (sym lost));
}
boot_lost first w (Err Limit) v s t before out n b says = absurd says
boot_lost first w (Err Foreign) v s t before out n b says = says
boot_lost first w (Err NoMemory) v s t before out n b says = inr (record {
  lost = true;
  taken = false;
  may = lit_boot w;
  holds = b.stands.bench;
  counts = subst (λ (f : Fate). Counted f s t) (boot_fate w true false) b.counts;
  woken = λ boot lost. absurd (false≢true (sym lost));
})

-- a plan doesn't step the card
cut_steps : (w : SmallWorld) (calls : ℕ) (tear : Tear) → steps_card w (line.Cut calls tear) ≡ false
unfolding steps_card given
cut_steps w calls tear = by_power w.lit
  where
    by_power : (b : Bool) → (b && false) || false ≡ false
    by_power true = refl
    by_power false = refl

cut_fate : (w : SmallWorld) (calls : ℕ) (tear : Tear) → record { lost = false; unplanned = is_far w.plan; marked = false; costly = false; planned = true } ≡ fate_of w (turn (line.Cut calls tear) false false)
unfolding fate_of is_costly is_cut
cut_fate w calls tear = ap (λ (b : Bool). record { lost = false; unplanned = is_far w.plan; marked = b && true; costly = false; planned = true }) (sym (cut_steps w calls tear))

cut_may : (w : SmallWorld) (calls : ℕ) (tear : Tear) → MayTurn w (turn (line.Cut calls tear) false false)
cut_may w calls tear = record { lost = λ is. absurd (false≢true is); due = λ due steps. absurd (false≢true (sym (cut_steps w calls tear) ∙ steps)); taken = λ is. absurd (false≢true is) }

cut_around : (w : SmallWorld) (calls : ℕ) (tear : Tear) → IsAround w (record w { plan = Some (calls, tear) })
cut_around w calls tear = record { eid = refl; assistant = refl; eims = refl; to_eims = refl; to_ipa = refl }

costs_more : (far : Bool) (s t : Seen) → Counted (record { lost = false; unplanned = far; marked = false; costly = false; planned = false }) s t → Counted (short_fate far) s t
costs_more far s t c = record {
  told = c.told;
  faults = c.faults;
  cuts = c.cuts;
  breaks = c.breaks;
  uses = c.uses;
  most = omega (arith, c.most);
  plans = c.plans;
  lost = c.lost;
  answers = c.answers;
  now = c.now;
  past = c.past;
}

pub cuts : (first : ℕ) (w : SmallWorld) (calls : ℕ) (tear : Tear) (result : Result (Unit {0}) Halt) (v : World) (s t : Seen) (before out : List ℕ) → IsNetwork v.network w → IsPlanned first w calls tear v.card s t → Says (codes "planned") before out result
    → Acts first (line.Cut calls tear) w result v s t before out
unfolding acted printed
cuts first w calls tear (Ok done) v s t before out n p says = record {
  lost = false;
  taken = false;
  may = cut_may w calls tear;
  says = says;
  stands = record { network = around_network v.network w (record w { plan = Some (calls, tear) }) (cut_around w calls tear) n; card = p.stands };
  counts = subst (λ (f : Fate). Counted f s t) (cut_fate w calls tear) p.counts;
  woken = λ boot. absurd (false≢true boot);
}
cuts first w calls tear (Err Limit) v s t before out n p says = absurd says
cuts first w calls tear (Err Foreign) v s t before out n p says = says
cuts first w calls tear (Err NoMemory) v s t before out n p says = inr (record {
  lost = false;
  taken = false;
  may = cut_may w calls tear;
  holds = p.stands.bench;
  counts = subst (λ (f : Fate). Counted f s t) (cut_fate w calls tear) p.counts;
  woken = λ boot lost. absurd (false≢true boot);
})

pub cut_short : (first : ℕ) (w : SmallWorld) (calls : ℕ) (tear : Tear) (v : World) (e : Wanting) (s t : Seen) → Planned first w calls tear (Err e) v.card s t → IsBefore first w s t ⊎ IsActedShort first (line.Cut calls tear) w s t
cut_short first w calls tear v e s t p = inl (record { holds = p.0.bench; counts = costs_more (is_far w.plan) s t p.1 })
