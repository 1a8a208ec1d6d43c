-- What the calls of a card do to the counts of its bench.
use Rattle.std.proofs.Common.{◌≡◌, ◌⊎◌, ⊎_elim, inl, inr, ℕ, ◌+◌, ◌≤◌, Bool, true, false, cond, nat_eq, List, Option, Some, None, refl, sym, ◌∙◌, ap, subst, arith}
use Rattle.std.proofs.lemmas.Bool.{false≢true}
use Rattle.std.proofs.lemmas.Bool.Decides.{nat_tests}
use Rattle.iot_bytes.specs.Causes.{Rose}
use Rattle.chip_port.specs.Seen.{Seen, Tally, Marks, no_plan, up}
use Rattle.chip_port.specs.Rules.{Untouched, answered}
use Rattle.chip_port.specs.Runs.{Ran, Ended, Went, Smooth, Broke, LetsPass}
use Rattle.card_store.specs.Looking.{Looks}
use Rattle.small_world.specs.Stretches.{Fate, is_far}
use Rattle.small_world.specs.Worlds.{Plan}
use Rattle.world_card.specs.Counts.{Counted, IsMarkedNow, KeepsPast, answered_fate, lost_fate, short_fate}

pub same_past : (m : Marks) → KeepsPast m m
same_past m n le = (refl, refl, refl)

-- nothing was counted, whatever the line may cost
pub still : (far costly : Bool) (s : Seen) → Counted (record { lost = false; unplanned = far; marked = false; costly = costly; planned = false }) s s
still far costly s = record {
  told = refl;
  faults = omega arith;
  cuts = omega arith;
  breaks = omega arith;
  uses = omega arith;
  most = omega arith;
  plans = refl;
  lost = λ is. absurd (false≢true is);
  answers = refl;
  now = λ is. absurd (false≢true is);
  past = same_past s.marks;
}

pub idle_counted : (far : Bool) (s : Seen) → Counted (short_fate far) s s
idle_counted far s = still far true s

-- an answer marks its own place and leaves those before
answered_past : (t : Tally) (m : Marks) → KeepsPast m (answered t m)
answered_past t m n le =
    let other : nat_eq n (m.answers + 1) ≡ false = grind (arith, nat_tests) in (
      ap (λ b. cond b t.cuts (m.cuts_at n)) other,
      ap (λ b. cond b t.breaks (m.breaks_at n)) other,
      refl,
    )

answered_now : (t : Tally) (m : Marks) → ((answered t m).cuts_at (answered t m).answers ≡ t.cuts) × ((answered t m).breaks_at (answered t m).answers ≡ t.breaks)
answered_now t m =
    let own : nat_eq (m.answers + 1) (m.answers + 1) ≡ true = grind (arith, nat_tests) in (ap (λ b. cond b t.cuts (m.cuts_at (m.answers + 1))) own, ap (λ b. cond b t.breaks (m.breaks_at (m.answers + 1))) own)

-- a run that ended with an answer
pub answered_counted : (far : Bool) (P Q : List ℕ → Type 0) (s t : Seen) → s.told ≡ true → Ended 10000 P Q s t → Counted (answered_fate far) s t
unfolding Went
answered_counted far P Q s t told e =
    let w : Smooth 10000 s.tally t.tally = e.went in
    let calm : t.faults ≡ s.faults = e.calm in
    record {
      told = e.told ∙ sym told;
      faults = omega (arith, calm);
      cuts = omega (arith, w.cuts);
      breaks = omega (arith, w.breaks);
      uses = w.more;
      most = w.most;
      plans = w.plans;
      lost = λ is. absurd (false≢true is);
      answers = ap (λ (m : Marks). m.answers) e.marks;
      now = λ is. now_marked;
      past = subst (λ (m : Marks). KeepsPast s.marks m) (sym e.marks) (answered_past t.tally s.marks);
    }
  where
    now_marked : IsMarkedNow t
    now_marked =
        let own = answered_now t.tally s.marks in record {
          cuts = subst (λ (m : Marks). m.cuts_at m.answers ≡ t.tally.cuts) (sym e.marks) own.0;
          breaks = subst (λ (m : Marks). m.breaks_at m.answers ≡ t.tally.breaks) (sym e.marks) own.1;
        }

pub lets_pass : (plan : Option Plan) → is_far plan ≡ true → LetsPass 10000 plan
lets_pass None e = tt
lets_pass (Some plan) e = grind (arith, nat_tests)

-- a run that broke
pub lost_counted : (P : List ℕ → Type 0) (plan : Option Plan) (s t : Seen) → s.told ≡ true → s.tally.cut ≡ false → s.tally.plan ≡ plan → s.faults ≤ t.faults → Rose s.faults t.faults → Ran 10000 false P s t
    → Counted (lost_fate (is_far plan)) s t
unfolding Went
lost_counted P plan s t told powered same monotone rose r =
    let w : Broke 10000 s.tally t.tally = r.went in
    record {
      told = r.told ∙ sym told;
      faults = monotone;
      cuts = w.cuts;
      breaks = w.breaks;
      uses = w.more;
      most = w.most;
      plans = w.plans;
      lost = λ is. record {
        fault = rose;
        cause = w.cause powered;
        early = λ far. (w.early powered (subst (λ (p : Option Plan). LetsPass 10000 p) (sym same) (lets_pass plan far))).0;
      };
      answers = ap (λ (m : Marks). m.answers) r.marks;
      now = λ is. absurd (false≢true is);
      past = subst (λ (m : Marks). KeepsPast s.marks m) (sym r.marks) (same_past s.marks);
    }

-- a look at the chip
pub looked_counted : (far : Bool) (s t : Seen) → s.told ≡ true → Looks 10000 s t → Counted (short_fate far) s t
looked_counted far s t told l =
    let w : Smooth 10000 s.tally t.tally = l.went in
    let calm : t.faults ≡ s.faults = l.faults in
    record {
      told = l.told ∙ sym told;
      faults = omega (arith, calm);
      cuts = omega (arith, w.cuts);
      breaks = omega (arith, w.breaks);
      uses = w.more;
      most = w.most;
      plans = w.plans;
      lost = λ is. absurd (false≢true is);
      answers = ap (λ (m : Marks). m.answers) l.keeps.marks;
      now = λ is. absurd (false≢true is);
      past = subst (λ (m : Marks). KeepsPast s.marks m) (sym l.keeps.marks) (same_past s.marks);
    }

-- the same counts but for the plan
pub dropped_counted : (f : Fate) (s t u : Seen) → Untouched no_plan t u → Counted f s t → Counted f s u
dropped_counted f s t u d c =
    let cuts : u.tally.cuts ≡ t.tally.cuts = ap (λ (x : Tally). x.cuts) d.tally_is in
    let breaks : u.tally.breaks ≡ t.tally.breaks = ap (λ (x : Tally). x.breaks) d.tally_is in
    let uses : u.tally.uses ≡ t.tally.uses = ap (λ (x : Tally). x.uses) d.tally_is in
    let plans : u.tally.plans ≡ t.tally.plans = ap (λ (x : Tally). x.plans) d.tally_is in
    record {
      told = d.told ∙ c.told;
      faults = omega (arith, c.faults, d.faults);
      cuts = omega (arith, c.cuts, cuts);
      breaks = omega (arith, c.breaks, breaks);
      uses = omega (arith, c.uses, uses);
      most = subst (λ n. n ≤ s.tally.uses + cond f.costly 10000 0) (sym uses) c.most;
      plans = plans ∙ c.plans;
      lost = λ is. let l = c.lost is in record {
        fault = subst (λ n. Rose s.faults n) (sym d.faults) l.fault;
        cause = ⊎_elim (λ rose. inl (subst (λ n. Rose s.tally.cuts n) (sym cuts) rose)) (λ rose. inr (subst (λ n. Rose s.tally.breaks n) (sym breaks) rose)) l.cause;
        early = λ far. subst (λ n. Rose s.tally.breaks n) (sym breaks) (l.early far);
      };
      answers = ap (λ (m : Marks). m.answers) d.keeps.marks ∙ c.answers;
      now = λ is. let n = c.now is in record {
        cuts = subst (λ (m : Marks). m.cuts_at m.answers ≡ u.tally.cuts) (sym d.keeps.marks) (n.cuts ∙ sym cuts);
        breaks = subst (λ (m : Marks). m.breaks_at m.answers ≡ u.tally.breaks) (sym d.keeps.marks) (n.breaks ∙ sym breaks);
      };
      past = subst (λ (m : Marks). KeepsPast s.marks m) (sym d.keeps.marks) c.past;
    }

-- a run that didn't break, without an answer
pub ran_counted : (far : Bool) (P : List ℕ → Type 0) (s t : Seen) → s.told ≡ true → Ran 10000 true P s t → Counted (short_fate far) s t
unfolding Went
ran_counted far P s t told r =
    let w : Smooth 10000 s.tally t.tally = r.went in
    let calm : t.faults ≡ s.faults = r.calm refl in
    record {
      told = r.told ∙ sym told;
      faults = omega (arith, calm);
      cuts = omega (arith, w.cuts);
      breaks = omega (arith, w.breaks);
      uses = w.more;
      most = w.most;
      plans = w.plans;
      lost = λ is. absurd (false≢true is);
      answers = ap (λ (m : Marks). m.answers) r.marks;
      now = λ is. absurd (false≢true is);
      past = subst (λ (m : Marks). KeepsPast s.marks m) (sym r.marks) (same_past s.marks);
    }

-- a start from which counts go on: they are those of the state before
pub record IsSameCount (s b : Seen) : Type 0 where
  pub told : b.told ≡ s.told
  pub faults : b.faults ≡ s.faults
  pub cuts : b.tally.cuts ≡ s.tally.cuts
  pub breaks : b.tally.breaks ≡ s.tally.breaks
  pub uses : b.tally.uses ≡ s.tally.uses
  pub plans : b.tally.plans ≡ s.tally.plans
  pub answers : b.marks.answers ≡ s.marks.answers
  pub past : KeepsPast s.marks b.marks

pub since : (f : Fate) (s b t : Seen) → IsSameCount s b → Counted f b t → Counted f s t
since f s b t same c = record {
  told = c.told ∙ same.told;
  faults = omega (arith, same.faults, c.faults);
  cuts = omega (arith, same.cuts, c.cuts);
  breaks = omega (arith, same.breaks, c.breaks);
  uses = omega (arith, same.uses, c.uses);
  most = subst (λ n. t.tally.uses ≤ n + cond f.costly 10000 0) same.uses c.most;
  plans = subst (λ n. t.tally.plans ≡ cond f.planned (up n) n) same.plans c.plans;
  lost = λ is. let l = c.lost is in record {
    fault = subst (λ n. Rose n t.faults) same.faults l.fault;
    cause = ⊎_elim (λ rose. inl (subst (λ n. Rose n t.tally.cuts) same.cuts rose)) (λ rose. inr (subst (λ n. Rose n t.tally.breaks) same.breaks rose)) l.cause;
    early = λ far. subst (λ n. Rose n t.tally.breaks) same.breaks (l.early far);
  };
  answers = subst (λ n. t.marks.answers ≡ cond f.marked (n + 1) n) same.answers c.answers;
  now = c.now;
  past = λ n le.
      let was = same.past n le in
      let is = c.past n (omega (arith, le, same.answers)) in (is.0 ∙ was.0, is.1 ∙ was.1, is.2 ∙ was.2);
}
