-- What a power cycle makes of the world that a card and its bench stand for.
use Rattle.std.proofs.Common.{◌≡◌, ◌⊎◌, ⊎_elim, inl, inr, ℕ, ◌+◌, ◌≤◌, Bool, true, false, cond, List, ◌∷◌, Option, Some, None, Ok, Err, refl, sym, ◌∙◌, ap, subst, arith}
use Rattle.std.specs.Prelude.{IfSome, IsSome, leb}
use Rattle.std.proofs.lemmas.Bool.{false≢true}
use Rattle.std.proofs.lemmas.Bool.Decides.{nat_tests}
use Rattle.iot_bytes.specs.Causes.{Rose}
use Rattle.chip_port.specs.Seen.{Seen, Tally, Marks, no_plan, is_due, up}
use Rattle.chip_port.specs.Rules.{Untouched, Sound, Woken, HasCause, woken as woken_marks}
use Rattle.chip_port.specs.Runs.{Ran, Went, Smooth}
use Rattle.small_card.specs.Cards.{FullCard}
use Rattle.small_card.specs.Histories.{History, full_of, with_unit}
use Rattle.small_card.specs.Legal.{IsLegal, May}
use Rattle.small_card.specs.Units.{CardUnit}
use Rattle.undo_journal.specs.Home.{is_open}
use Rattle.package_codec.specs.Replies.{grown}
use Rattle.card_store.specs.Standing.{Stands, IsSettled}
use Rattle.card_store.specs.Loading.{StandsAs}
use Rattle.card_store.specs.Holding.{Mark, Holds, StandsAt, followed, standing}
use Rattle.card_store.proofs.Cards.{stands_for_one}
use Rattle.card_store.proofs.Holding.{loss_held}
use Rattle.euicc_core.specs.Answers.{Answers}
use Rattle.euicc_core.specs.Openings.{Opens, IsOpened, IsUnopened}
use Rattle.euicc_core.specs.declared.ends.OpenError.TheVariants as open_end
use Rattle.euicc_core.proofs.Kept.{opening_held, marks_kept}
use Rattle.small_world.specs.Stepping.{attempt, woken, booted}
use Rattle.small_world.specs.Stretches.{is_far}
use Rattle.small_world.specs.Worlds.{SmallWorld, Plan}
use Rattle.small_card.proofs.Validity.{more_legal}
use Rattle.world_card.specs.Benches.{HoldsWorld, IsOnBench, IsNewest, IsSound}
use Rattle.world_card.specs.declared.ends.BootEnd.{BootEnd}
use Rattle.world_card.specs.declared.ends.BootEnd.TheVariants.{Booted, Lost, Foreign, NoMemory}
use Rattle.world_card.specs.Boots.{Boots, HasCauseOfBoot, Reopens, IsBooted, IsLostBoot, IsBefore, IsWokenFor}
use Rattle.world_card.specs.Counts.{Counted, KeepsPast, answered_fate, lost_fate, short_fate}
use Rattle.world_card.proofs.Counting.{answered_counted, lost_counted, ran_counted, dropped_counted, since, IsSameCount, same_past}
use Rattle.world_card.proofs.Standing.{held_at, untouched_world}

-- what a cut left stands for the history, with the attempt or without it
stands_at : (first : ℕ) (w : SmallWorld) (s : Seen) → IsSound w → HoldsWorld first s w → (i : List ℕ) → s.leaves i → StandsAt w.history (attempt w.marks) i
stands_at first w s sound h i left = by_power w.lit refl
  where
    by_power : (b : Bool) → w.lit ≡ b → StandsAt w.history (attempt w.marks) i
    by_power false e = h.dark e i left
    by_power true e =
        let p = (h.lit e).settled in
        subst (λ (o : Option CardUnit). StandsAt w.history o i) (sym (sound.rests e)) (subst (λ (x : List ℕ). Stands (full_of w.history) x) (sym (p.alone i left)) p.stands)

-- whatever stands for the same cards stands for one of the two
as_at : (h : History) (o : Option CardUnit) (before i : List ℕ) → StandsAt h o before → StandsAs before i → StandsAt h o i
as_at h None before i s alike = alike (full_of h) s
as_at h (Some u) before i s alike = ⊎_elim (λ was. inl (alike (full_of h) was)) (λ was. inr (alike (full_of (with_unit h u)) was)) s

-- the power came back: an image is there, and only that one
pub record IsAwake (first : ℕ) (w : SmallWorld) (s b : Seen) : Type 0 where
  pub told : b.told ≡ true
  pub holds : Holds b first w.history w.marks
  pub was : s.leaves b.reads
  pub at : StandsAt w.history (attempt w.marks) b.reads
  pub only : (i : List ℕ) → b.leaves i → i ≡ b.reads
  pub powered : b.tally.cut ≡ false
  pub plan : b.tally.plan ≡ s.tally.plan
  pub marks : b.marks ≡ woken_marks b.reads s.marks
  pub same : IsSameCount s b

woken_past : (image : List ℕ) (m : Marks) → KeepsPast m (woken_marks image m)
woken_past image m n le =
    let under : leb n m.answers ≡ true = grind (arith, nat_tests) in
    (refl, refl, ap (λ b. cond b (m.woke n) (Some image)) under)

awake : {T E : Type 0} (x : T) (first : ℕ) (w : SmallWorld) (s b : Seen) → Sound 346624 s → IsSound w → HoldsWorld first s w → HasCause {E = E} s b (Ok x) → Woken {E = E} s b (Ok x) → IsAwake first w s b
awake {T} {E} x first w s b before sound h cause cycle =
    let done = cycle.done in
    let marks : b.marks ≡ woken_marks b.reads s.marks = done.2 in
    let answers : b.marks.answers ≡ s.marks.answers = ap (λ (m : Marks). m.answers) marks in
    record {
      told = cause.told ∙ h.told;
      holds = record {
        answers = ap (λ n. n + 1) answers ∙ h.holds.answers;
        marked = marks_kept s b first w.history w.marks cycle.time.keeps
            (λ k i now. ⊎_elim (λ was. was) (λ at. subst (λ n. s.left n i) (sym (at.0 ∙ answers)) (before.counts_now i (subst (λ (x : List ℕ). s.leaves x) (sym (done.1 i at.1)) done.0))) (cycle.time.nothing_else k i now)) h.holds.marked;
      };
      was = done.0;
      at = stands_at first w s sound h b.reads done.0;
      only = done.1;
      powered = ap (λ (t : Tally). t.cut) cycle.tally;
      plan = ap (λ (t : Tally). t.plan) cycle.tally;
      marks = marks;
      same = record {
        told = cause.told;
        faults = cycle.calm;
        cuts = ap (λ (t : Tally). t.cuts) cycle.tally;
        breaks = ap (λ (t : Tally). t.breaks) cycle.tally;
        uses = ap (λ (t : Tally). t.uses) cycle.tally;
        plans = ap (λ (t : Tally). t.plans) cycle.tally;
        answers = answers;
        past = subst (λ (m : Marks). KeepsPast s.marks m) (sym marks) (woken_past b.reads s.marks);
      };
    }

-- whether the card that woke has the attempt
record IsChosen (h : History) (o : Option CardUnit) (card : FullCard) : Type 0 where
  pub taken : Bool
  pub there : taken ≡ true → IsSome o
  pub choice : Option CardUnit
  pub either : (choice ≡ None) ⊎ (choice ≡ o)
  pub follows : followed h choice ≡ cond taken (grown o h) h
  pub is : card ≡ full_of (followed h choice)

chosen : (h : History) (o : Option CardUnit) (card : FullCard) (i : List ℕ) → StandsAt h o i → Stands card i → IsChosen h o card
chosen h None card i at stands = record { taken = false; there = λ is. absurd (false≢true is); choice = None; either = inl refl; follows = refl; is = stands_for_one card (full_of h) i stands at }
chosen h (Some u) card i at stands =
    ⊎_elim
    (λ was. record { taken = false; there = λ is. absurd (false≢true is); choice = None; either = inl refl; follows = refl; is = stands_for_one card (full_of h) i stands was })
    (λ was. record { taken = true; there = λ is. refl; choice = Some u; either = inr refl; follows = refl; is = stands_for_one card (full_of (with_unit h u)) i stands was }) at

grown_legal : (h : History) (o : Option CardUnit) → IsLegal h → IfSome o (May h) → IsLegal (grown o h)
grown_legal h None l m = l
grown_legal h (Some u) l m = more_legal h u l m

woken_legal : (w : SmallWorld) (taken : Bool) → IsSound w → IsLegal (woken taken w)
woken_legal w true s = grown_legal w.history (attempt w.marks) s.legal s.tried
woken_legal w false s = s.legal

booted_sound : (w : SmallWorld) (taken : Bool) → IsSound w → IsSound (booted false taken w)
unfolding booted attempt
booted_sound w taken s = record {
  legal = woken_legal w taken s;
  tried = tt;
  newest = record { mark = standing (woken taken w); older = w.marks; newest = refl; whole = refl };
  rests = λ is. refl;
}

-- the newest mark with its own attempt
own_attempt : (h : History) (marks : List Mark) (n : IsNewest h marks) → attempt marks ≡ n.mark.attempt
unfolding attempt
own_attempt h marks n = ap attempt n.newest

-- the image that the newest answer was woken with
woke_now : (f : FullCard) (s b t : Seen) → b.marks ≡ woken_marks b.reads s.marks → t.marks.answers ≡ b.marks.answers + 1 → t.marks.woke ≡ b.marks.woke → Stands f b.reads → IsWokenFor f t
woke_now f s b t marks answers same stands =
    let above : leb t.marks.answers s.marks.answers ≡ false = grind (arith, nat_tests, answers, ap (λ (m : Marks). m.answers) marks) in
    record {
      image = b.reads;
      woke = ap (λ (g : ℕ → Option (List ℕ)). g t.marks.answers) (same ∙ ap (λ (m : Marks). m.woke) marks) ∙ ap (λ c. cond c (s.marks.woke t.marks.answers) (Some b.reads)) above;
      stands = stands;
    }

woke_kept : (f : FullCard) (t u : Seen) → u.marks ≡ t.marks → IsWokenFor f t → IsWokenFor f u
woke_kept f t u same w = record { image = w.image; woke = subst (λ (m : Marks). m.woke m.answers ≡ Some w.image) (sym same) w.woke; stands = w.stands }

-- a card that woke
woken_up : (first : ℕ) (w : SmallWorld) (held : Option FullCard) (s b t u : Seen) → Sound 346624 b → Sound 346624 t → IsSound w → s.tally.plan ≡ w.plan → IsAwake first w s b → IsOpened held b t → Untouched no_plan t u → IsBooted first w held s u
unfolding booted
woken_up first w held s b t u before now sound plan a o dropped =
    let h = w.history in
    let n = sound.newest in
    let own = own_attempt h w.marks n in
    let pick = chosen h (attempt w.marks) o.card b.reads a.at o.stood in
    let next = woken pick.taken w in
    let marks = standing next ∷ w.marks in
    let held_b = held_at b first h w.marks n n.mark.attempt a.told a.holds (inr own) in
    let answered = subst (λ (f : FullCard). Answers (Stands f) f b t) pick.is o.answered in
    let held_t = opening_held b t first h n.mark n.older n.mark.attempt pick.choice before now held_b (subst (λ (x : Option CardUnit). (pick.choice ≡ None) ⊎ (pick.choice ≡ x)) own pick.either) answered in
    let holds_n = subst (λ (g : History). Holds t first g (standing g ∷ n.mark ∷ n.older)) pick.follows held_t in
    let holds = subst (λ (ms : List Mark). Holds t first next (standing next ∷ ms)) (sym n.newest) holds_n in
    let card_is : o.card ≡ full_of next = pick.is ∙ ap full_of pick.follows in
    let world : HoldsWorld first t (booted false pick.taken w) = record {
      told = answered.ended.told;
      holds = holds;
      lit = λ is. record { settled = subst (λ (f : FullCard). IsSettled f t) card_is o.answered.settled; powered = answered.ended.powered };
      dark = λ is. absurd (false≢true (sym is));
    } in
    record {
      taken = pick.taken;
      may = λ is. record { dark = dark_when (pick.there is); there = pick.there is };
      not_due = subst (λ (p : Option Plan). is_due p ≡ false) (a.plan ∙ plan) answered.ended.passes.not_due;
      stands = record {
        sound = booted_sound w pick.taken sound;
        held_is = o.lit ∙ ap (λ (f : FullCard). Some f) card_is;
        bench = untouched_world no_plan first t u (booted false pick.taken w) (λ x. refl) dropped world;
        plan = ap (λ (x : Tally). x.plan) dropped.tally_is;
      };
      woken = woke_kept (full_of next) t u dropped.keeps.marks
          (woke_now (full_of next) s b t a.marks (ap (λ (m : Marks). m.answers) answered.ended.marks) (ap (λ (m : Marks). m.woke) answered.ended.marks) (subst (λ (f : FullCard). Stands f b.reads) card_is o.stood));
      counts = dropped_counted (answered_fate (is_far w.plan)) s t u dropped (since (answered_fate (is_far w.plan)) s b t a.same (answered_counted (is_far w.plan) _ _ b t a.told answered.ended));
    }
  where
    dark_when : IsSome (attempt w.marks) → w.lit ≡ false
    dark_when there = by_power w.lit refl
      where
        by_power : (b : Bool) → w.lit ≡ b → w.lit ≡ false
        by_power false e = e
        by_power true e = absurd (false≢true (subst (λ (o : Option CardUnit). IsSome o) (sound.rests e) there))

-- what an opening that didn't end in a card left
unopened_ran : (first : ℕ) (w : SmallWorld) (ok : Bool) (s b t : Seen) → IsAwake first w s b → IsUnopened ok b t → Ran 10000 ok (StandsAt w.history (attempt w.marks)) b t
unopened_ran first w ok s b t a o = record {
  told = o.ran.told;
  marks = o.ran.marks;
  keeps = o.ran.keeps;
  adds = λ k i now. ⊎_elim inl (λ added. inr (added.0, as_at w.history (attempt w.marks) b.reads i a.at added.1)) (o.adds k i now);
  here = λ i now. ⊎_elim
      (λ was. subst (λ (x : List ℕ). StandsAt w.history (attempt w.marks) x) (sym (a.only i was)) a.at)
      (λ alike. as_at w.history (attempt w.marks) b.reads i a.at alike) (o.ran.here i now);
  calm = o.ran.calm;
  went = o.ran.went;
}

ran_holds : (first : ℕ) (w : SmallWorld) (ok : Bool) (s b t : Seen) → IsSound w → IsAwake first w s b → Ran 10000 ok (StandsAt w.history (attempt w.marks)) b t → Holds t first w.history w.marks
ran_holds first w ok s b t sound a r =
    let n = sound.newest in
    let own = own_attempt w.history w.marks n in
    let held = held_at b first w.history w.marks n n.mark.attempt a.told a.holds (inr own) in
    subst (λ (ms : List Mark). Holds t first w.history ms) (sym n.newest)
    (loss_held b t first 10000 ok w.history n.mark n.older n.mark.attempt held (subst (λ (o : Option CardUnit). Ran 10000 ok (StandsAt w.history o) b t) own r))

-- a world whose boot was lost
lost_sound : (w : SmallWorld) → IsSound w → IsSound (booted true false w)
unfolding booted
lost_sound w s = record { legal = s.legal; tried = s.tried; newest = s.newest; rests = λ is. absurd (false≢true is) }

lost_boot : (first : ℕ) (w : SmallWorld) (held : Option FullCard) (s t u : Seen) → IsSound w → held ≡ None → t.told ≡ true → Holds t first w.history w.marks → ((i : List ℕ) → t.leaves i → StandsAt w.history (attempt w.marks) i)
    → Untouched no_plan t u → Counted (lost_fate (is_far w.plan)) s t → IsLostBoot first w held s u
unfolding booted
lost_boot first w held s t u sound none told holds here dropped counts =
    let world : HoldsWorld first t (booted true false w) = record { told = told; holds = holds; lit = λ is. absurd (false≢true is); dark = λ is. here } in
    record {
      stands = record {
        sound = lost_sound w sound;
        held_is = none;
        bench = untouched_world no_plan first t u (booted true false w) (λ x. refl) dropped world;
        plan = ap (λ (x : Tally). x.plan) dropped.tally_is;
      };
      counts = dropped_counted (lost_fate (is_far w.plan)) s t u dropped counts;
    }

-- the opening broke
opening_lost : (first : ℕ) (w : SmallWorld) (held : Option FullCard) (s b t u : Seen) → IsSound w → s.tally.plan ≡ w.plan → b.faults ≤ t.faults → Rose b.faults t.faults → held ≡ None
    → IsAwake first w s b → IsUnopened false b t → Untouched no_plan t u → IsLostBoot first w held s u
opening_lost first w held s b t u sound plan monotone rose none a o dropped =
    let r = unopened_ran first w false s b t a o in
    lost_boot first w held s t u sound none r.told (ran_holds first w false s b t sound a r) r.here dropped
    (since (lost_fate (is_far w.plan)) s b t a.same (lost_counted _ w.plan b t a.told a.powered (a.plan ∙ plan) monotone rose r))

-- memory ran out in the opening
opening_short : (first : ℕ) (w : SmallWorld) (s b t u : Seen) → IsSound w → HoldsWorld first s w → IsAwake first w s b → Opens (Err open_end.NoMemory) b t → Untouched no_plan t u → IsBefore first w s u
unfolding Went
opening_short first w s b t u sound h a o dropped =
    let r = unopened_ran first w true s b t a o.0 in
    let smooth : Smooth 10000 b.tally t.tally = r.went in
    let world : HoldsWorld first t w = record {
      told = r.told;
      holds = ran_holds first w true s b t sound a r;
      lit = λ is. record { settled = o.1.settled (full_of w.history) (awake_settled is); powered = smooth.cut ∙ a.powered };
      dark = λ is. r.here;
    } in
    record {
      holds = untouched_world no_plan first t u w (λ x. refl) dropped world;
      counts = dropped_counted (short_fate (is_far w.plan)) s t u dropped (since (short_fate (is_far w.plan)) s b t a.same (ran_counted (is_far w.plan) _ b t a.told r));
    }
  where
    awake_settled : w.lit ≡ true → IsSettled (full_of w.history) b
    awake_settled is =
        let p = (h.lit is).settled in
        let same : b.reads ≡ s.reads = p.alone b.reads a.was in
        record { alone = a.only; shut = subst (λ (i : List ℕ). is_open i ≡ false) (sym same) p.shut; stands = subst (λ (i : List ℕ). Stands (full_of w.history) i) (sym same) p.stands }

-- no card stood there, though one did
never_foreign : (h : History) (o : Option CardUnit) (i : List ℕ) → StandsAt h o i → ((card : FullCard) → Stands card i → ⊥) → ⊥
never_foreign h None i s none = none (full_of h) s
never_foreign h (Some u) i s none = ⊎_elim (λ was. none (full_of h) was) (λ was. none (full_of (with_unit h u)) was) s

-- after the power came back
pub reopened : {T E : Type 0} (x : T) (first : ℕ) (w : SmallWorld) (end : BootEnd) (held now : Option FullCard) (s b t u : Seen) → Sound 346624 s → Sound 346624 b → Sound 346624 t → IsOnBench first held s w
    → HasCause {E = E} s b (Ok x) → Woken {E = E} s b (Ok x) → HasCauseOfBoot end b t → (now ≡ None) ⊎ (end ≡ Booted) → Reopens end now b t → Untouched no_plan t u → Boots first w end now s u
reopened {T} {E} x first w Booted held now s b t u before awake_it now_it stands cause cycle why dark opens dropped =
    woken_up first w now s b t u awake_it now_it stands.sound stands.plan (awake {T = T} {E = E} x first w s b before stands.sound stands.bench cause cycle) opens dropped
reopened {T} {E} x first w Lost held now s b t u before awake_it now_it stands cause cycle why dark opens dropped =
    opening_lost first w now s b t u stands.sound stands.plan why.monotone (why.lost refl) (⊎_elim (λ none. none) (λ is. absurd cc) dark) (awake {T = T} {E = E} x first w s b before stands.sound stands.bench cause cycle) opens dropped
reopened {T} {E} x first w Foreign held now s b t u before awake_it now_it stands cause cycle why dark opens dropped =
    let a = awake {T = T} {E = E} x first w s b before stands.sound stands.bench cause cycle in
    never_foreign w.history (attempt w.marks) b.reads a.at opens.1
reopened {T} {E} x first w NoMemory held now s b t u before awake_it now_it stands cause cycle why dark opens dropped =
    opening_short first w s b t u stands.sound stands.bench (awake {T = T} {E = E} x first w s b before stands.sound stands.bench cause cycle) opens dropped

-- the power cycle failed
pub stayed_off : {T E : Type 0} (e : E) (first : ℕ) (w : SmallWorld) (held : Option FullCard) (s b u : Seen) → Sound 346624 s → IsOnBench first held s w → HasCause {T = T} s b (Err e) → Woken {T = T} s b (Err e)
    → Untouched no_plan b u → IsLostBoot first w None s u
stayed_off {T} {E} e first w held s b u before stands cause cycle dropped =
    let keeps = cycle.failed in
    let answers : b.marks.answers ≡ s.marks.answers = ap (λ (m : Marks). m.answers) keeps.marks in
    let h = stands.bench in
    let breaks : b.tally.breaks ≡ up s.tally.breaks = ap (λ (t : Tally). t.breaks) cycle.tally in
    lost_boot first w None s b u stands.sound refl (cause.told ∙ h.told) (record {
      answers = ap (λ n. n + 1) answers ∙ h.holds.answers;
      marked = marks_kept s b first w.history w.marks cycle.time.keeps
          (λ k i now. ⊎_elim (λ was. was) (λ at. subst (λ n. s.left n i) (sym (at.0 ∙ answers)) (before.counts_now i ((keeps.leaves i).1 at.1))) (cycle.time.nothing_else k i now)) h.holds.marked;
    }) (λ i now. stands_at first w s stands.sound h i ((keeps.leaves i).1 now)) dropped (record {
      told = cause.told;
      faults = cause.monotone;
      cuts = omega (arith, ap (λ (t : Tally). t.cuts) cycle.tally);
      breaks = omega (arith, breaks);
      uses = omega (arith, ap (λ (t : Tally). t.uses) cycle.tally);
      most = omega (arith, ap (λ (t : Tally). t.uses) cycle.tally);
      plans = ap (λ (t : Tally). t.plans) cycle.tally;
      lost = λ is. record { fault = cause.failed; cause = inr (omega (arith, breaks)); early = λ far. omega (arith, breaks) };
      answers = answers;
      now = λ is. absurd (false≢true is);
      past = subst (λ (m : Marks). KeepsPast s.marks m) (sym keeps.marks) (same_past s.marks);
    })
