-- What a command makes of the world that a card and its bench stand for.
use Rattle.std.proofs.Common.{◌≡◌, inl, ℕ, ◌≤◌, true, false, cond, List, ◌∷◌, Option, Some, None, refl, sym, ◌∙◌, ap, subst}
use Rattle.std.specs.Prelude.{IfSome}
use Rattle.std.proofs.lemmas.Bool.{false≢true}
use Rattle.iot_bytes.specs.Causes.{Rose}
use Rattle.chip_port.specs.Seen.{Seen, Tally, no_plan, is_due}
use Rattle.chip_port.specs.Rules.{Untouched, Sound}
use Rattle.chip_port.specs.Runs.{Ran}
use Rattle.small_card.specs.Cards.{FullCard}
use Rattle.small_card.specs.Histories.{History, full_of}
use Rattle.small_card.specs.Legal.{IsLegal, May}
use Rattle.small_card.specs.Ranges.{IsCommand}
use Rattle.small_card.specs.Units.{CardUnit}
use Rattle.small_card.specs.declared.types.Answer.{Answer}
use Rattle.small_card.specs.declared.types.Command.{Command}
use Rattle.package_codec.specs.Replies.{unit_of, after}
use Rattle.package_codec.proofs.InRange.{reads_in_range}
use Rattle.package_codec.proofs.Replying.{unit_may}
use Rattle.card_store.specs.Holding.{Mark, Holds, StandsAt, standing, tried}
use Rattle.card_store.proofs.Holding.{loss_held}
use Rattle.euicc_core.specs.Answers.{Answers}
use Rattle.euicc_core.specs.Steps.{Steps, ChipSteps}
use Rattle.euicc_core.specs.declared.ends.StepEnd.TheVariants.{Answered, Lost, NoMemory}
use Rattle.euicc_core.proofs.Kept.{step_held}
use Rattle.small_world.specs.Stepping.{attempt, commanded, answered_step, lost_step}
use Rattle.small_world.specs.Stretches.{is_far}
use Rattle.small_world.specs.Worlds.{SmallWorld, Plan}
use Rattle.small_world.proofs.HasLemmas.{if_some}
use Rattle.world_card.specs.Benches.{HoldsWorld, IsOnBench, IsNewest, IsSound}
use Rattle.world_card.specs.Commands.{IsAnswered, IsLost, IsShort}
use Rattle.world_card.specs.Counts.{answered_fate, lost_fate}
use Rattle.world_card.proofs.Counting.{answered_counted, lost_counted, looked_counted, dropped_counted}
use Rattle.world_card.proofs.Standing.{held_at, untouched_world, looked_world, lit_held}

-- a command to a lit card
pub commanded_lit : (c : Command) (w : SmallWorld) → w.lit ≡ true → commanded c false w ≡ answered_step c w
unfolding commanded
commanded_lit c w lit = ap (λ b. cond b (answered_step c w) w) lit

lost_is : (c : Command) (w : SmallWorld) → w.lit ≡ true → commanded c true w ≡ lost_step c w
unfolding commanded
lost_is c w lit = ap (λ b. cond b (lost_step c w) w) lit

-- the newest mark with an attempt
pub tried_newest : (h : History) (marks : List Mark) (n : IsNewest h marks) (u : Option CardUnit) → tried u marks ≡ record n.mark { attempt = u } ∷ n.older
unfolding tried
tried_newest h marks n u = ap (tried u) n.newest

pub tried_attempt : (h : History) (marks : List Mark) (n : IsNewest h marks) (u : Option CardUnit) → attempt (tried u marks) ≡ u
unfolding attempt
tried_attempt h marks n u = ap attempt (tried_newest h marks n u)

-- an answered step
answered_world : (first : ℕ) (w : SmallWorld) (c : Command) (s t : Seen) → Sound 346624 s → Sound 346624 t → IsSound w → w.lit ≡ true → HoldsWorld first s w
    → Answers (StandsAt w.history (unit_of w.history c)) (full_of (after w.history c)) s t → HoldsWorld first t (answered_step c w)
answered_world first w c s t before now sound lit h a =
    let n = sound.newest in
    let u = unit_of w.history c in
    let next = after w.history c in
    let held = held_at s first w.history w.marks n u h.told h.holds (inl (sound.rests lit)) in
    record {
      told = a.ended.told;
      holds = subst (λ (ms : List Mark). Holds t first next (standing next ∷ ms)) (sym (tried_newest w.history w.marks n u)) (step_held s t first w.history c n.mark n.older before now held a);
      lit = λ is. record { settled = a.settled; powered = a.ended.powered };
      dark = λ is. absurd (false≢true (sym is ∙ lit));
    }

answered_sound : (w : SmallWorld) (c : Command) → IsLegal (after w.history c) → IsSound (answered_step c w)
unfolding attempt
answered_sound w c legal = record {
  legal = legal;
  tried = tt;
  newest = record { mark = standing (after w.history c); older = tried (unit_of w.history c) w.marks; newest = refl; whole = refl };
  rests = λ is. refl;
}

pub command_answered : (first : ℕ) (w : SmallWorld) (c : Command) (a : Answer) (held now : Option FullCard) (s t u : Seen) → Sound 346624 s → Sound 346624 t → IsOnBench first held s w → w.lit ≡ true
    → ChipSteps c held (Answered a) s t → Steps c held now (Answered a) → Untouched no_plan t u → IsAnswered first w c a now s u
command_answered first w c a held now s t u before after_it stands lit chip steps dropped =
    let h = w.history in
    let at = lit_held w held stands.held_is lit in
    let ends = (chip h stands.sound.legal at).ends in
    let r = steps h stands.sound.legal at in
    let is = commanded_lit c w lit in
    let world = answered_world first w c s t before after_it stands.sound lit stands.bench ends in
    record {
      lit = lit;
      reply_is = r.reply_is;
      not_due = subst (λ (p : Option Plan). is_due p ≡ false) stands.plan ends.ended.passes.not_due;
      stands = subst (λ (v : SmallWorld). IsOnBench first now u v) (sym is) (record {
        sound = answered_sound w c r.legal;
        held_is = r.card_is ∙ sym (ap (λ b. cond {A = Option FullCard} b (Some (full_of (after h c))) None) lit);
        bench = untouched_world no_plan first t u (answered_step c w) (λ x. refl) dropped world;
        plan = ap (λ (x : Tally). x.plan) dropped.tally_is;
      });
      counts = dropped_counted (answered_fate (is_far w.plan)) s t u dropped (answered_counted (is_far w.plan) _ _ s t stands.bench.told ends.ended);
    }

-- a step that was lost
lost_world : (first : ℕ) (w : SmallWorld) (c : Command) (s t : Seen) → IsSound w → w.lit ≡ true → HoldsWorld first s w → Ran 10000 false (StandsAt w.history (unit_of w.history c)) s t → HoldsWorld first t (lost_step c w)
lost_world first w c s t sound lit h r =
    let n = sound.newest in
    let u = unit_of w.history c in
    let held = held_at s first w.history w.marks n u h.told h.holds (inl (sound.rests lit)) in
    record {
      told = r.told;
      holds = subst (λ (ms : List Mark). Holds t first w.history ms) (sym (tried_newest w.history w.marks n u)) (loss_held s t first 10000 false w.history n.mark n.older u held r);
      lit = λ is. absurd (false≢true is);
      dark = λ is i left. subst (λ (o : Option CardUnit). StandsAt w.history o i) (sym (tried_attempt w.history w.marks n u)) (r.here i left);
    }

lost_sound : (w : SmallWorld) (c : Command) → IsCommand c → IsSound w → IsSound (lost_step c w)
lost_sound w c fits sound =
    let n = sound.newest in
    let u = unit_of w.history c in
    record {
      legal = sound.legal;
      tried = subst (λ (o : Option CardUnit). IfSome o (May w.history)) (sym (tried_attempt w.history w.marks n u)) (if_some u (May w.history) (λ v is. unit_may reads_in_range w.history c v sound.legal fits is));
      newest = record { mark = record n.mark { attempt = u }; older = n.older; newest = tried_newest w.history w.marks n u; whole = n.whole };
      rests = λ is. absurd (false≢true is);
    }

pub command_lost : (first : ℕ) (w : SmallWorld) (c : Command) (held now : Option FullCard) (s t u : Seen) → IsCommand c → s.faults ≤ t.faults → Rose s.faults t.faults → IsOnBench first held s w → w.lit ≡ true
    → ChipSteps c held Lost s t → Steps c held now Lost → Untouched no_plan t u → IsLost first w c now s u
command_lost first w c held now s t u fits monotone rose stands lit chip steps dropped =
    let at = lit_held w held stands.held_is lit in
    let ran = (chip w.history stands.sound.legal at).ends in
    let world = lost_world first w c s t stands.sound lit stands.bench ran in
    record {
      lit = lit;
      stands = subst (λ (v : SmallWorld). IsOnBench first now u v) (sym (lost_is c w lit)) (record {
        sound = lost_sound w c fits stands.sound;
        held_is = steps;
        bench = untouched_world no_plan first t u (lost_step c w) (λ x. refl) dropped world;
        plan = ap (λ (x : Tally). x.plan) dropped.tally_is;
      });
      counts = dropped_counted (lost_fate (is_far w.plan)) s t u dropped (lost_counted _ w.plan s t stands.bench.told (stands.bench.lit lit).powered stands.plan monotone rose ran);
    }

-- memory ran out
pub command_short : (first : ℕ) (w : SmallWorld) (c : Command) (held : Option FullCard) (s t : Seen) → IsOnBench first held s w → w.lit ≡ true → ChipSteps c held NoMemory s t → IsShort first w s t
command_short first w c held s t stands lit chip =
    let looks = (chip w.history stands.sound.legal (lit_held w held stands.held_is lit)).ends.0 in
    record { lit = lit; holds = looked_world 10000 first s t w looks stands.bench; counts = looked_counted (is_far w.plan) s t stands.bench.told looks }
