-- What a planned cut makes of the world that a card and its bench stand for.
use Rattle.std.proofs.Common.{◌≡◌, ℕ, Bool, true, false, Option, Some, Result, Ok, Err, refl, sym, ◌∙◌, ap, subst, arith}
use Rattle.std.specs.Prelude.{OnOk, OnErr, if◌then◌else◌}
use Rattle.std.proofs.lemmas.Bool.{false≢true}
use Rattle.iot_bytes.specs.declared.memory.NoMemory.{NoMemory}
use Rattle.chip_port.specs.declared.chip.Tear.{Tear}
use Rattle.chip_port.specs.Seen.{Seen, Tally, Marks, plan_of, up}
use Rattle.chip_port.specs.Rules.{Untouched, IfTold}
use Rattle.small_card.specs.Cards.{FullCard}
use Rattle.small_world.specs.Stretches.{is_far}
use Rattle.small_world.specs.Worlds.{SmallWorld, Plan}
use Rattle.world_card.specs.Benches.{HoldsWorld, IsOnBench, IsSound}
use Rattle.world_card.specs.Counts.{Counted, KeepsPast}
use Rattle.world_card.specs.Plans.{Planned}
use Rattle.world_card.proofs.Counting.{same_past}
use Rattle.world_card.proofs.Standing.{untouched_world}

-- the plan is no part of what the bench holds
pub under_plan : (first : ℕ) (w : SmallWorld) (s : Seen) (plan : Option Plan) → HoldsWorld first s w → HoldsWorld first s (record w { plan = plan })
under_plan first w s plan h = record { told = h.told; holds = h.holds; lit = h.lit; dark = h.dark }

sound_under : (w : SmallWorld) (plan : Option Plan) → IsSound w → IsSound (record w { plan = plan })
sound_under w plan s = record { legal = s.legal; tried = s.tried; newest = s.newest; rests = s.rests }

untouched_counted : (far planned : Bool) (f : Tally → Tally) (s t : Seen) → (f s.tally).cuts ≡ s.tally.cuts → (f s.tally).breaks ≡ s.tally.breaks → (f s.tally).uses ≡ s.tally.uses → (f s.tally).plans ≡ (if planned then up s.tally.plans else s.tally.plans)
    → Untouched f s t → Counted (record { lost = false; unplanned = far; marked = false; costly = false; planned = planned }) s t
untouched_counted far planned f s t cuts breaks uses plans u = record {
  told = u.told;
  faults = omega (arith, u.faults);
  cuts = omega (arith, cuts, ap (λ (x : Tally). x.cuts) u.tally_is);
  breaks = omega (arith, breaks, ap (λ (x : Tally). x.breaks) u.tally_is);
  uses = omega (arith, uses, ap (λ (x : Tally). x.uses) u.tally_is);
  most = omega (arith, uses, ap (λ (x : Tally). x.uses) u.tally_is);
  plans = ap (λ (x : Tally). x.plans) u.tally_is ∙ plans;
  lost = λ is. absurd (false≢true is);
  answers = ap (λ (m : Marks). m.answers) u.keeps.marks;
  now = λ is. absurd (false≢true is);
  past = subst (λ (m : Marks). KeepsPast s.marks m) (sym u.keeps.marks) (same_past s.marks);
}

pub planned : (first : ℕ) (w : SmallWorld) (calls : ℕ) (tear : Tear) (result : Result (Unit {0}) NoMemory) (held : Option FullCard) (s t : Seen) → IsOnBench first held s w
    → OnOk result (IfTold s (Untouched (plan_of calls tear) s t)) → OnErr result (IfTold s (Untouched (λ x. x) s t)) → Planned first w calls tear result held s t
planned first w calls tear (Ok done) held s t b made refused =
    let u = made b.bench.told in
    record {
      stands = record {
        sound = sound_under w (Some (calls, tear)) b.sound;
        held_is = b.held_is;
        bench = under_plan first w t (Some (calls, tear)) (untouched_world (plan_of calls tear) first s t w (λ x. refl) u b.bench);
        plan = ap (λ (x : Tally). x.plan) u.tally_is;
      };
      counts = untouched_counted (is_far w.plan) true (plan_of calls tear) s t refl refl refl refl u;
    }
planned first w calls tear (Err e) held s t b made refused =
    let u = refused b.bench.told in (
      record { sound = b.sound; held_is = b.held_is; bench = untouched_world (λ x. x) first s t w (λ x. refl) u b.bench; plan = ap (λ (x : Tally). x.plan) u.tally_is ∙ b.plan },
      untouched_counted (is_far w.plan) false (λ x. x) s t refl refl refl refl u,
    )
