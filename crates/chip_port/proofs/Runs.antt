-- How a run goes on.
use Rattle.std.proofs.Common.{◌≡◌, ◌⊎◌, inl, inr, ⊎_elim, ℕ, ◌+◌, ◌-◌, ◌≤◌, Bool, true, false, List, length, arith, refl, sym, ◌∙◌, ap, subst, OnOk}
use Rattle.std.specs.Prelude.{Option, Some, None, Result, Ok, Err, is_ok, IsErr, if◌then◌else◌, ◌==◌}
use Rattle.std.proofs.lemmas.Bool.Decides.{nat_tests}
use Rattle.chip_port.specs.declared.chip.Tear.{Tear}
use Rattle.iot_bytes.specs.Causes.{Rose}
use Rattle.chip_port.specs.Seen.{Seen, Tally, Marks, is_due, one_less, called, Passes, up}
use Rattle.chip_port.specs.Rules.{Called, HasCause, IfTold, ReadOut, Written, Synced, Torn, Untouched, Answered, answered}
use Rattle.chip_port.specs.Runs.{Less, LetsPass, Smooth, Broke, Went, Ran, Ended, Closed}

less_refl : (p : Option (ℕ × Tear)) → Less 0 p p
less_refl None = refl
less_refl (Some plan) = (plan.0, refl, omega arith, omega arith)

less_trans : (m n : ℕ) (p q r : Option (ℕ × Tear)) → Less m p q → Less n q r → Less (m + n) p r
less_trans m n None q r pq qr = subst (λ (o : Option (ℕ × Tear)). Less n o r) pq qr
less_trans m n (Some plan) q r pq qr =
    let on = subst (λ (o : Option (ℕ × Tear)). Less n o r) pq.1 qr in (on.0, on.1, omega arith, omega arith)

less_one : (p : Option (ℕ × Tear)) → is_due p ≡ false → Less 1 p (one_less p)
less_one None h = refl
less_one (Some plan) h = (plan.0 - 1, refl, omega arith, omega arith)

lets_on : (m n : ℕ) (p q : Option (ℕ × Tear)) → Less m p q → LetsPass (m + n) p → LetsPass n q
lets_on m n None q pq h = subst (λ (o : Option (ℕ × Tear)). LetsPass n o) (sym pq) tt
lets_on m n (Some plan) q pq h = subst (λ (o : Option (ℕ × Tear)). LetsPass n o) (sym pq.1) (omega arith)

due_on : (m : ℕ) (p q : Option (ℕ × Tear)) → Less m p q → is_due p ≡ true → is_due q ≡ true
due_on m None q pq h = cc
due_on m (Some plan) q pq h = subst (λ (o : Option (ℕ × Tear)). is_due o ≡ true) (sym pq.1) (grind (arith, nat_tests))

lets_one : (p : Option (ℕ × Tear)) → LetsPass 1 p → is_due p ≡ false
lets_one None h = refl
lets_one (Some plan) h = grind (arith, nat_tests)

pub smooth_none : (t : Tally) → Smooth 0 t t
smooth_none t = record { more = omega arith; most = omega arith; plans = refl; cuts = refl; breaks = refl; cut = refl; plan = less_refl t.plan }

pub smooth_then : (m n : ℕ) (a b c : Tally) → Smooth m a b → Smooth n b c → Smooth (m + n) a c
smooth_then m n a b c ab bc = record {
  more = omega arith;
  most = omega arith;
  plans = bc.plans ∙ ab.plans;
  cuts = bc.cuts ∙ ab.cuts;
  breaks = bc.breaks ∙ ab.breaks;
  cut = bc.cut ∙ ab.cut;
  plan = less_trans m n a.plan b.plan c.plan ab.plan bc.plan;
}

pub broke_then : (m n : ℕ) (a b c : Tally) → Smooth m a b → Broke n b c → Broke (m + n) a c
broke_then m n a b c ab bc = record {
  more = omega arith;
  most = omega arith;
  plans = bc.plans ∙ ab.plans;
  cuts = omega arith;
  breaks = omega arith;
  cause = λ on. ⊎_elim (λ cut. inl (rose_on a.cuts b.cuts c.cuts ab.cuts cut)) (λ broke. inr (rose_on a.breaks b.breaks c.breaks ab.breaks broke)) (bc.cause (ab.cut ∙ on));
  early = λ on lets.
      let had = bc.early (ab.cut ∙ on) (lets_on m n a.plan b.plan ab.plan lets) in
      (rose_on a.breaks b.breaks c.breaks ab.breaks had.0, had.1 ∙ ab.cuts, had.2, less_trans m n a.plan b.plan c.plan ab.plan had.3);
  doomed = λ doom. bc.doomed (⊎_elim (λ cut. inl (ab.cut ∙ cut)) (λ due. inr (due_on m a.plan b.plan ab.plan due)) doom);
}
  where
    rose_on : (x y z : ℕ) → y ≡ x → Rose y z → Rose x z
    rose_on x y z e r = subst (λ (k : ℕ). Rose k z) e r

pub went_then : (m n : ℕ) (ok : Bool) (a b c : Tally) → Went m true a b → Went n ok b c → Went (m + n) ok a c
unfolding Went
went_then m n true a b c ab bc = smooth_then m n a b c ab bc
went_then m n false a b c ab bc = broke_then m n a b c ab bc

pub went_one : (ok : Bool) (t : Tally) → (ok ≡ true → Passes t) → Went 1 ok t (called ok t)
unfolding Went
went_one true t passes =
    let p = passes refl in
    let is : called true t ≡ record t { uses = up t.uses; plan = one_less t.plan } = simp (p.powered, p.not_due) in
    subst (λ (u : Tally). Smooth 1 t u) (sym is) (record {
      more = omega arith;
      most = omega arith;
      plans = refl;
      cuts = refl;
      breaks = refl;
      cut = refl;
      plan = less_one t.plan p.not_due;
    })
went_one false t passes = elim (bool_cases t.cut) [
  | inl cut ↦
      let is : called false t ≡ record t { uses = up t.uses } = simp cut in
      subst (λ (u : Tally). Broke 1 t u) (sym is) (record {
        more = omega arith;
        most = omega arith;
        plans = refl;
        cuts = omega arith;
        breaks = omega arith;
        cause = λ on. absurd (cc (cut, on));
        early = λ on lets. absurd (cc (cut, on));
        doomed = λ doom. doom;
      })
  | inr on ↦ elim (bool_cases (is_due t.plan)) [
    | inl due ↦
        let is : called false t ≡ record t { uses = up t.uses; plan = None; cuts = up t.cuts; cut = true } = simp (on, due) in
        subst (λ (u : Tally). Broke 1 t u) (sym is) (record {
          more = omega arith;
          most = omega arith;
          plans = refl;
          cuts = omega arith;
          breaks = omega arith;
          cause = λ _. inl (omega arith);
          early = λ _ lets. absurd (cc (due, lets_one t.plan lets));
          doomed = λ doom. inl refl;
        })
    | inr not_due ↦
        let is : called false t ≡ record t { uses = up t.uses; plan = one_less t.plan; breaks = up t.breaks } = simp (on, not_due) in
        subst (λ (u : Tally). Broke 1 t u) (sym is) (record {
          more = omega arith;
          most = omega arith;
          plans = refl;
          cuts = omega arith;
          breaks = omega arith;
          cause = λ _. inr (omega arith);
          early = λ _ lets. (omega arith, refl, on, less_one t.plan not_due);
          doomed = ⊎_elim (λ cut. absurd (cc (cut, on))) (λ due. absurd (cc (due, not_due)));
        })
  ]
]
  where
    bool_cases : (b : Bool) → (b ≡ true) ⊎ (b ≡ false)
    bool_cases true = inl refl
    bool_cases false = inr refl

smooth_one : (t : Tally) → Passes t → Smooth 1 t (called true t)
unfolding Went
smooth_one t p = went_one true t (λ _. p)

went_smooth : (m n : ℕ) (a b c : Tally) → Went m true a b → Smooth n b c → Went (m + n) true a c
unfolding Went
went_smooth m n a b c ab bc = smooth_then m n a b c ab bc

-- before the first call
pub ran_none : (P : List ℕ → Type 0) (s : Seen) → s.told ≡ true → ((c : List ℕ) → s.leaves c → P c) → Ran 0 true P s s
unfolding Went
ran_none P s told here = record { told = told; marks = refl; keeps = λ k c was. was; adds = λ k c was. inl was; here = here; calm = λ _. refl; went = smooth_none s.tally }

-- one call more, after which a cut leaves only what has P
pub ran_call : {T E : Type 0} {n : ℕ} {P : List ℕ → Type 0} {a b c : Seen} {result : Result T E} → Ran n true P a b → HasCause b c result → Called b c result → c.marks ≡ b.marks
    → ((i : List ℕ) → c.leaves i → P i) → Ran (n + 1) (is_ok result) P a c
ran_call {T} {E} {n} {P} {a} {b} {c} {result} ab cause call marks here = record {
  told = cause.told ∙ ab.told;
  marks = marks ∙ ab.marks;
  keeps = λ k i was. call.time.keeps k i (ab.keeps k i was);
  adds = λ k i left. ⊎_elim (ab.adds k i) (λ now. inr (now.0 ∙ ap (λ (m : Marks). m.answers) (marks ∙ ab.marks), here i now.1)) (call.time.nothing_else k i left);
  here = here;
  calm = λ ok. calm_call result call.calm ok ∙ ab.calm refl;
  went = went_then n 1 (is_ok result) a.tally b.tally c.tally ab.went
      (subst (λ (t : Tally). Went 1 (is_ok result) b.tally t) (sym call.tally) (went_one (is_ok result) b.tally (passes result call.passes)));
}
  where
    passes : {T E : Type 0} (r : Result T E) → OnOk r (Passes b.tally) → is_ok r ≡ true → Passes b.tally
    passes (Ok x) p e = p
    passes (Err x) p e = absurd (cc e)

    calm_call : {T E : Type 0} (r : Result T E) → OnOk r (c.faults ≡ b.faults) → is_ok r ≡ true → c.faults ≡ b.faults
    calm_call (Ok x) p e = p
    calm_call (Err x) p e = absurd (cc e)

pub ran_read : {T E : Type 0} {n : ℕ} {P : List ℕ → Type 0} {a b c : Seen} {result : Result T E} {at : ℕ} {before after : List ℕ} → Ran n true P a b → HasCause b c result
    → IfTold b (ReadOut at before after b c result) → Ran (n + 1) (is_ok result) P a c
ran_read ab cause told = let r = told ab.told in ran_call ab cause r.call r.keeps.marks (λ i now. ab.here i ((r.keeps.leaves i).1 now))

pub ran_sync : {T E : Type 0} {n : ℕ} {P : List ℕ → Type 0} {a b c : Seen} {result : Result T E} → Ran n true P a b → HasCause b c result
    → IfTold b (Synced b c result) → Ran (n + 1) (is_ok result) P a c
ran_sync ab cause told = let r = told ab.told in ran_call ab cause r.call r.marks (λ i now. ab.here i (r.fewer i now))

pub ran_write : {T E : Type 0} {n : ℕ} {P : List ℕ → Type 0} {a b c : Seen} {result : Result T E} {at : ℕ} {octets : List ℕ} → Ran n true P a b → HasCause b c result
    → IfTold b (Written at octets b c result) → ((d i : List ℕ) → b.leaves d → Torn at (length octets) d i → P i) → Ran (n + 1) (is_ok result) P a c
ran_write ab cause told torn = let r = told ab.told in ran_call ab cause r.call r.marks (λ i now. let from = r.leaves i now in torn from.0 i from.1 from.2)

-- a run of calls more, as a function makes them
pub ran_then : {m n : ℕ} {ok : Bool} {P Q : List ℕ → Type 0} {a b c : Seen} → Ran m true P a b → Ran n ok Q b c → ((i : List ℕ) → Q i → P i) → Ran (m + n) ok P a c
ran_then {m} {n} {ok} {P} {Q} {a} {b} {c} ab bc weaker = record {
  told = bc.told;
  marks = bc.marks ∙ ab.marks;
  keeps = λ k i was. bc.keeps k i (ab.keeps k i was);
  adds = λ k i left. ⊎_elim (ab.adds k i) (λ now. inr (now.0 ∙ ap (λ (t : Marks). t.answers) ab.marks, weaker i now.1)) (bc.adds k i left);
  here = λ i now. weaker i (bc.here i now);
  calm = λ done. bc.calm done ∙ ab.calm refl;
  went = went_then m n ok a.tally b.tally c.tally ab.went bc.went;
}

pub less_more : (m n : ℕ) (p q : Option (ℕ × Tear)) → m ≤ n → Less m p q → Less n p q
less_more m n None q le h = h
less_more m n (Some plan) q le h = (h.0, h.1, h.2, omega arith)

lets_less : (m n : ℕ) (p : Option (ℕ × Tear)) → m ≤ n → LetsPass n p → LetsPass m p
lets_less m n None le h = tt
lets_less m n (Some plan) le h = omega arith

went_most : (m n : ℕ) (ok : Bool) (a b : Tally) → m ≤ n → Went m ok a b → Went n ok a b
unfolding Went
went_most m n true a b le w = record {
  more = w.more;
  most = omega arith;
  plans = w.plans;
  cuts = w.cuts;
  breaks = w.breaks;
  cut = w.cut;
  plan = less_more m n a.plan b.plan le w.plan;
}
went_most m n false a b le w = record {
  more = w.more;
  most = omega arith;
  plans = w.plans;
  cuts = w.cuts;
  breaks = w.breaks;
  cause = w.cause;
  doomed = w.doomed;
  early = λ on lets. let had = w.early on (lets_less m n a.plan le lets) in (had.0, had.1, had.2, less_more m n a.plan b.plan le had.3);
}

-- a bound on the calls that is further up
pub ran_most : {m n : ℕ} {ok : Bool} {P : List ℕ → Type 0} {a b : Seen} → m ≤ n → Ran m ok P a b → Ran n ok P a b
ran_most {m} {n} {ok} {P} {a} {b} le run = record {
  told = run.told;
  marks = run.marks;
  keeps = run.keeps;
  adds = run.adds;
  here = run.here;
  calm = run.calm;
  went = went_most m n ok a.tally b.tally le run.went;
}

-- a call that touches no more than spare
pub ran_untouched : {n : ℕ} {P : List ℕ → Type 0} {a b c : Seen} → Ran n true P a b → Untouched (λ t. t) b c → Ran n true P a c
ran_untouched {n} {P} {a} {b} {c} ab u = record {
  told = u.told ∙ ab.told;
  marks = u.keeps.marks ∙ ab.marks;
  keeps = λ k i was. (u.left k i).0 (ab.keeps k i was);
  adds = λ k i left. ab.adds k i ((u.left k i).1 left);
  here = λ i now. ab.here i ((u.keeps.leaves i).1 now);
  calm = λ done. u.faults ∙ ab.calm done;
  went = subst (λ (t : Tally). Went n true a.tally t) (sym u.tally_is) ab.went;
}

-- what could be left at the start was left then
pub ran_since : {n : ℕ} {ok : Bool} {P : List ℕ → Type 0} {a b : Seen} → Ran n ok (λ i. a.leaves i ⊎ P i) a b → ((i : List ℕ) → a.leaves i → a.left a.marks.answers i)
    → (k : ℕ) (i : List ℕ) → b.left k i → a.left k i ⊎ ((k ≡ a.marks.answers) × P i)
ran_since {n} {ok} {P} {a} {b} ab law k i left = ⊎_elim inl (λ now. ⊎_elim (λ was. inl (subst (λ (m : ℕ). a.left m i) (sym now.0) (law i was))) (λ p. inr (now.0, p)) now.1) (ab.adds k i left)

-- an answer that fails changes no image
pub ran_unanswered : {T E : Type 0} {n : ℕ} {P : List ℕ → Type 0} {a b c : Seen} {e : E} → Ran n true P a b → HasCause {T = T} b c (Err e)
    → IfTold b (Answered {T = T} b c (Err e)) → Ran (n + 1) false P a c
ran_unanswered ab cause told = let r = told ab.told in ran_call ab cause r.call r.marks (λ i now. ab.here i ((r.leaves i).1 now))

-- before calls that all passed the chip wasn't cut, and the next call wasn't the cut
passes_back : (n : ℕ) (a b : Tally) → Went n true a b → Passes b → Passes a
unfolding Went
passes_back n a b w p = record { powered = sym w.cut ∙ p.powered; not_due = not_due_on n a.plan b.plan w.plan p.not_due }
  where
    not_due_on : (n : ℕ) (p q : Option (ℕ × Tear)) → Less n p q → is_due q ≡ false → is_due p ≡ false
    not_due_on n None q pq h = refl
    not_due_on n (Some plan) q pq h =
        let off = subst (λ (o : Option (ℕ × Tear)). is_due o ≡ false) pq.1 h in
        grind (arith, nat_tests)

-- what could be left at the start was left then, over a run that ends with an answer
pub ended_since : {n : ℕ} {P Q : List ℕ → Type 0} {a b : Seen} → Ended n (λ i. a.leaves i ⊎ P i) Q a b → ((i : List ℕ) → a.leaves i → a.left a.marks.answers i)
    → (k : ℕ) (i : List ℕ) → b.left k i → a.left k i ⊎ (((k ≡ a.marks.answers) × P i) ⊎ ((k ≡ a.marks.answers + 1) × Q i))
ended_since {n} {P} {Q} {a} {b} ab law k i left =
    ⊎_elim inl (λ now. ⊎_elim (λ before. ⊎_elim (λ was. inl (subst (λ (m : ℕ). a.left m i) (sym before.0) (law i was))) (λ p. inr (inl (before.0, p))) before.1) (λ after. inr (inr after)) now) (ab.adds k i left)

-- an answer that succeeds ends the run
pub ran_answered : {T E : Type 0} {n : ℕ} {P Q : List ℕ → Type 0} {a b c : Seen} {x : T} → Ran n true P a b → HasCause {E = E} b c (Ok x)
    → IfTold b (Answered {E = E} b c (Ok x)) → ((i : List ℕ) → b.leaves i → Q i) → Ended (n + 1) P Q a c
ran_answered {T} {E} {n} {P} {Q} {a} {b} {c} {x} ab cause told settled =
    let r = told ab.told in
    let answers : c.marks.answers ≡ a.marks.answers + 1 = ap (λ (m : Marks). m.answers) r.marks ∙ ap (λ (m : Marks). m.answers + 1) ab.marks in
    let one : Smooth 1 b.tally c.tally = subst (λ (t : Tally). Smooth 1 b.tally t) (sym r.call.tally) (smooth_one b.tally r.call.passes) in
    record {
      told = cause.told ∙ ab.told;
      marks = r.marks ∙ ap (λ (m : Marks). answered b.tally m) ab.marks ∙ answered_by b.tally c.tally a.marks one.cuts one.breaks;
      keeps = λ k i was. r.call.time.keeps k i (ab.keeps k i was);
      adds = λ k i left. ⊎_elim (λ had. ⊎_elim inl (λ now. inr (inl now)) (ab.adds k i had)) (λ now. inr (inr (now.0 ∙ answers, settled i ((r.leaves i).1 now.1)))) (r.call.time.nothing_else k i left);
      here = λ i now. settled i ((r.leaves i).1 now);
      passes = passes_back n a.tally b.tally ab.went r.call.passes;
      powered = one.cut ∙ r.call.passes.powered;
      calm = r.call.calm ∙ ab.calm refl;
      went = went_smooth n 1 a.tally b.tally c.tally ab.went one;
    }
  where
    answered_by : (s t : Tally) (m : Marks) → t.cuts ≡ s.cuts → t.breaks ≡ s.breaks → answered s m ≡ answered t m
    answered_by s t m e f = λ i. record {
      answers = m.answers + 1;
      cuts_at = λ n. if n == m.answers + 1 then sym e i else m.cuts_at n;
      breaks_at = λ n. if n == m.answers + 1 then sym f i else m.breaks_at n;
      woke = m.woke;
    }

-- an answer as the last call, whether it succeeds or not
pub ran_closed : {T E : Type 0} {n : ℕ} {P Q : List ℕ → Type 0} {a b c : Seen} (result : Result T E) → Ran n true P a b → HasCause b c result → IfTold b (Answered b c result)
    → ((i : List ℕ) → b.leaves i → Q i) → Closed (n + 1) (is_ok result) P Q a c
ran_closed (Ok x) ab cause told settled = ran_answered ab cause told settled
ran_closed (Err e) ab cause told settled = ran_unanswered ab cause told

-- a failure is no success
pub not_ok : {T E : Type 0} (result : Result T E) → IsErr result → is_ok result ≡ false
not_ok (Ok x) h = sym h
not_ok (Err e) h = refl
