-- Tries that follow one another.
use Rattle.std.proofs.Common.{◌≡◌, ◌⊎◌, ⊎_elim, ℕ, ◌+◌, ◌≤◌, Bool, true, false, List, refl, sym, ap, subst, ◌∙◌, arith, inl, inr}
use Rattle.std.specs.Prelude.{Result, Ok, Err, Option, Some, if◌then◌else◌, leb}
use Rattle.std.proofs.lemmas.Bool.Decides.{nat_tests}
use Rattle.chip_port.specs.Seen.{Seen, Tally, Marks, up}
use Rattle.chip_port.specs.Rules.{IfTold, HasCause, Sound, Woken, woken}
use Rattle.chip_port.specs.Runs.{Went}
use Rattle.small_card.specs.Cards.{FullCard}
use Rattle.card_store.specs.Standing.{Stands}
use Rattle.card_store.specs.Loading.{StandsAs}
use Rattle.card_store.specs.Looking.{HasCauseOf}
use Rattle.card_store.proofs.Cards.{stands_for_one}
use Rattle.euicc_core.specs.Openings.{IsOpened, IsUnopened, Opens}
use Rattle.euicc_core.specs.Settling.{RoseBy, raised, RoseTogether, HasCauseOfSettle, Costs, WokeAsNone, IsUnwoken, IsWoken, IsUnlit, IsRelit, Cycles}
use Rattle.euicc_core.specs.declared.ends.OpenError.{OpenError}
use Rattle.euicc_core.specs.declared.ends.OpenError.TheVariants as open_end
use Rattle.euicc_core.specs.declared.ends.SettleEnd.{SettleEnd}
use Rattle.euicc_core.specs.declared.ends.SettleEnd.TheVariants as settle_end

-- counts of faults

pub rose_then : (k x y z : ℕ) → RoseBy k x y → RoseBy 1 y z → RoseBy (k + 1) x z
rose_then k x y z xy yz = omega (arith, xy, yz)

together_then : (k : ℕ) (a b c : Tally) → RoseTogether k a b → RoseTogether 1 b c → RoseTogether (k + 1) a c
together_then k a b c ab bc = record {
  cuts = ab.cuts + bc.cuts;
  breaks = ab.breaks + bc.breaks;
  enough = omega (arith, ab.enough, bc.enough);
  cuts_rose = more ab.cuts bc.cuts a.cuts b.cuts c.cuts ab.cuts_rose bc.cuts_rose;
  breaks_rose = more ab.breaks bc.breaks a.breaks b.breaks c.breaks ab.breaks_rose bc.breaks_rose;
}
  where
    more : (m n x y z : ℕ) → RoseBy m x y → RoseBy n y z → RoseBy (m + n) x z
    more m n x y z xy yz = omega (arith, xy, yz)

caused_then : (k : ℕ) (end : SettleEnd) (a b c : Seen) → HasCauseOfSettle k settle_end.Spent a b → HasCauseOfSettle 1 end b c → HasCauseOfSettle (k + 1) end a c
caused_then k end a b c ab bc = record {
  told = bc.told ∙ ab.told;
  monotone = omega (arith, ab.monotone, bc.monotone);
  spent = λ is. rose_then k a.faults b.faults c.faults (ab.spent refl) (bc.spent is);
}

caused_within : (k n : ℕ) (end : SettleEnd) (a b : Seen) → (end ≡ settle_end.Spent → ⊥) → HasCauseOfSettle k end a b → HasCauseOfSettle n end a b
caused_within k n end a b lit h = record { told = h.told; monotone = h.monotone; spent = λ is. absurd (lit is) }

-- no try costs nothing
pub costs_none : (t : Tally) → Costs 0 settle_end.Spent t t
costs_none t = record {
  plans = refl;
  more = omega arith;
  most = omega arith;
  cuts = omega arith;
  breaks = omega arith;
  spent = λ _. record { cuts = 0; breaks = 0; enough = omega arith; cuts_rose = omega arith; breaks_rose = omega arith };
}

pub costs_then : (k : ℕ) (end : SettleEnd) (a b c : Tally) → Costs k settle_end.Spent a b → Costs 1 end b c → Costs (k + 1) end a c
costs_then k end a b c ab bc = record {
  plans = bc.plans ∙ ab.plans;
  more = omega (arith, ab.more, bc.more);
  most = omega (arith, ab.most, bc.most);
  cuts = omega (arith, ab.cuts, bc.cuts);
  breaks = omega (arith, ab.breaks, bc.breaks);
  spent = λ is. together_then k a b c (ab.spent refl) (bc.spent is);
}

-- fewer tries than were granted
pub costs_within : (k n : ℕ) (end : SettleEnd) (a b : Tally) → k ≤ n → (end ≡ settle_end.Spent → ⊥) → Costs k end a b → Costs n end a b
costs_within k n end a b le lit h = record {
  plans = h.plans;
  more = h.more;
  most = omega (arith, h.most, le);
  cuts = h.cuts;
  breaks = h.breaks;
  spent = λ is. absurd (lit is);
}

-- a power cycle that failed
pub costs_failed : (a b : Tally) → b ≡ record a { breaks = up a.breaks } → Costs 1 settle_end.Spent a b
costs_failed a b e = subst (λ (t : Tally). Costs 1 settle_end.Spent a t) (sym e) (record {
  plans = refl;
  more = omega arith;
  most = omega arith;
  cuts = omega arith;
  breaks = omega arith;
  spent = λ _. record { cuts = 0; breaks = 1; enough = omega arith; cuts_rose = omega arith; breaks_rose = omega arith };
})

costs_went : (ok : Bool) (end : SettleEnd) (a b : Tally) → (end ≡ settle_end.Spent → ok ≡ false) → Went 10000 ok (record a { cut = false }) b → Costs 1 end a b
unfolding Went
costs_went true end a b spent w = record {
  plans = w.plans;
  more = w.more;
  most = w.most;
  cuts = omega (arith, w.cuts);
  breaks = omega (arith, w.breaks);
  spent = λ is. let f = spent is in absurd (cc f);
}
costs_went false end a b spent w = record {
  plans = w.plans;
  more = w.more;
  most = w.most;
  cuts = w.cuts;
  breaks = w.breaks;
  spent = λ _. ⊎_elim
      (λ cut. record { cuts = 1; breaks = 0; enough = omega arith; cuts_rose = cut; breaks_rose = omega (arith, w.breaks) })
      (λ broke. record { cuts = 0; breaks = 1; enough = omega arith; cuts_rose = omega (arith, w.cuts); breaks_rose = broke })
      (w.cause refl);
}

-- an opening after a power cycle that succeeded
pub costs_opened : (ok : Bool) (end : SettleEnd) (a m b : Tally) → (end ≡ settle_end.Spent → ok ≡ false) → m ≡ record a { cut = false } → Went 10000 ok m b → Costs 1 end a b
costs_opened ok end a m b spent e w = costs_went ok end a b spent (subst (λ (t : Tally). Went 10000 ok t b) e w)

-- images

as_then : (i j k : List ℕ) → StandsAs i j → StandsAs j k → StandsAs i k
as_then i j k ij jk = λ d s. jk d (ij d s)

as_only : (i j : List ℕ) → i ≡ j → StandsAs j i
as_only i j e = λ d s. subst (λ (l : List ℕ). Stands d l) (sym e) s

-- no try changes nothing
pub cycles_none : (s : Seen) → Cycles 0 settle_end.Spent s s
cycles_none s = inl (record {
  keeps = record { reads = refl; leaves = λ i. (λ was. was, λ now. now); marks = refl };
  left = λ k i. (λ was. was, λ now. now);
  tally = same s.tally (omega arith);
})
  where
    same : (t : Tally) → raised 0 t.breaks ≡ t.breaks → t ≡ record t { breaks = raised 0 t.breaks }
    same t e = ap (λ (n : ℕ). record t { breaks = n }) (sym e)

-- a power cycle that failed
pub cycle_failed : {T E : Type 0} (a b : Seen) (e : E) → Sound 346624 a → Woken {T = T} a b (Err e) → Cycles 1 settle_end.Spent a b
cycle_failed a b e sound w = inl (record {
  keeps = w.failed;
  left = λ k i. (λ was. w.time.keeps k i was, λ now. ⊎_elim (λ was. was) (λ at. subst (λ (n : ℕ). a.left n i) (sym (at.0 ∙ ap (λ (m : Marks). m.answers) w.failed.marks)) (sound.counts_now i ((w.failed.leaves i).1 at.1))) (w.time.nothing_else k i now));
  tally = w.tally;
})

-- the image that the next answer was woken by
woke_next : (image : List ℕ) (m : Marks) → (woken image m).woke (m.answers + 1) ≡ Some image
woke_next image m =
    let no : leb (m.answers + 1) m.answers ≡ false = grind (arith, nat_tests) in
    ap (λ (b : Bool). if b then m.woke (m.answers + 1) else Some image) no

woken_by : {T E : Type 0} (a m b : Seen) (x : T) → Woken {E = E} a m (Ok x) → b.marks.woke (a.marks.answers + 1) ≡ m.marks.woke (a.marks.answers + 1) → IsWoken m.reads m.reads a b
woken_by a m b x w same = record {
  was = w.done.0;
  woke = same ∙ ap (λ (k : Marks). k.woke (a.marks.answers + 1)) w.done.2 ∙ woke_next m.reads a.marks;
  stands = λ d s. s;
}

-- what could be left at a power cycle, or is left by it
left_by : {T E : Type 0} (a m : Seen) (x : T) → Woken {E = E} a m (Ok x) → (k : ℕ) (i : List ℕ) → m.left k i → a.left k i ⊎ ((k ≡ a.marks.answers) × StandsAs m.reads i)
left_by a m x w k i now =
    ⊎_elim inl (λ at. inr (at.0 ∙ ap (λ (k : Marks). k.answers) w.done.2, as_only i m.reads (w.done.1 i at.1))) (w.time.nothing_else k i now)

-- an opening that gave no card
pub unlit_by : {T E : Type 0} (ok : Bool) (a m b : Seen) (x : T) → Woken {E = E} a m (Ok x) → IsUnopened ok m b → IsUnlit a b
unlit_by ok a m b x w o =
    let answers : m.marks.answers ≡ a.marks.answers = ap (λ (k : Marks). k.answers) w.done.2 in
    record {
      first = m.reads;
      last = m.reads;
      woken = woken_by a m b x w (ap (λ (k : Marks). k.woke (a.marks.answers + 1)) o.ran.marks);
      answers = ap (λ (k : Marks). k.answers) o.ran.marks ∙ answers;
      leaves = λ i now. ⊎_elim (λ was. as_only i m.reads (w.done.1 i was)) (λ s. s) (o.ran.here i now);
      keeps = λ k i was. o.ran.keeps k i (w.time.keeps k i was);
      adds = λ k i now. ⊎_elim (left_by a m x w k i) (λ at. inr (at.0 ∙ answers, at.1)) (o.adds k i now);
    }

pub foreign_by : {T E : Type 0} (a m b : Seen) (x : T) → Woken {E = E} a m (Ok x) → IsUnopened true m b → ((d : FullCard) → Stands d m.reads → ⊥) → WokeAsNone (a.marks.answers + 1) b
foreign_by a m b x w o none =
    let by : IsWoken m.reads m.reads a b = woken_by a m b x w (ap (λ (k : Marks). k.woke (a.marks.answers + 1)) o.ran.marks) in
    record { image = m.reads; woke = by.woke; none = none }

-- an opening that lit the card
pub relit_by : {T E : Type 0} (held : Option FullCard) (a m b : Seen) (x : T) → Woken {E = E} a m (Ok x) → IsOpened held m b → IsRelit held a b
relit_by held a m b x w o =
    let run = o.answered.ended in
    let answers : m.marks.answers ≡ a.marks.answers = ap (λ (k : Marks). k.answers) w.done.2 in
    record {
      first = m.reads;
      last = m.reads;
      woken = woken_by a m b x w (ap (λ (k : Marks). k.woke (a.marks.answers + 1)) run.marks);
      card = o.card;
      lit = o.lit;
      stood = o.stood;
      settled = o.answered.settled;
      answers = ap (λ (k : Marks). k.answers) run.marks ∙ ap (λ (n : ℕ). n + 1) answers;
      keeps = λ k i was. run.keeps k i (w.time.keeps k i was);
      adds = λ k i now. ⊎_elim
          (λ was. ⊎_elim inl (λ at. inr (inl at)) (left_by a m x w k i was))
          (λ more. inr (⊎_elim (λ at. inl (at.0 ∙ answers, as_card m.reads o.card i o.stood at.1)) (λ at. inr (at.0 ∙ ap (λ (n : ℕ). n + 1) answers, at.1)) more))
          (run.adds k i now);
    }
  where
    as_card : (j : List ℕ) (card : FullCard) (i : List ℕ) → Stands card j → Stands card i → StandsAs j i
    as_card j card i there here = λ d s. subst (λ (f : FullCard). Stands f i) (stands_for_one card d j there s) here

-- tries that follow one another

unwoken_unwoken : (k : ℕ) (a b c : Seen) → IsUnwoken k a b → IsUnwoken 1 b c → IsUnwoken (k + 1) a c
unwoken_unwoken k a b c ab bc = record {
  keeps = record {
    reads = bc.keeps.reads ∙ ab.keeps.reads;
    leaves = λ i. (λ was. (bc.keeps.leaves i).0 ((ab.keeps.leaves i).0 was), λ now. (ab.keeps.leaves i).1 ((bc.keeps.leaves i).1 now));
    marks = bc.keeps.marks ∙ ab.keeps.marks;
  };
  left = λ n i. (λ was. (bc.left n i).0 ((ab.left n i).0 was), λ now. (ab.left n i).1 ((bc.left n i).1 now));
  tally = bc.tally ∙ ap (λ (t : Tally). record t { breaks = raised 1 t.breaks }) ab.tally ∙ ap (λ (n : ℕ). record a.tally { breaks = n }) (again a.tally.breaks);
}
  where
    again : (n : ℕ) → raised 1 (raised k n) ≡ raised (k + 1) n
    again n = omega arith

unwoken_woken : (k : ℕ) (a b c : Seen) (first last : List ℕ) → IsUnwoken k a b → IsWoken first last b c → IsWoken first last a c
unwoken_woken k a b c first last ab bc = record {
  was = (ab.keeps.leaves first).1 bc.was;
  woke = subst (λ (m : Marks). c.marks.woke (m.answers + 1) ≡ Some last) ab.keeps.marks bc.woke;
  stands = bc.stands;
}

unwoken_unlit : (k : ℕ) (a b c : Seen) → IsUnwoken k a b → IsUnlit b c → IsUnlit a c
unwoken_unlit k a b c ab bc =
    let answers : b.marks.answers ≡ a.marks.answers = ap (λ (m : Marks). m.answers) ab.keeps.marks in
    record {
      first = bc.first;
      last = bc.last;
      woken = unwoken_woken k a b c bc.first bc.last ab bc.woken;
      answers = bc.answers ∙ answers;
      leaves = bc.leaves;
      keeps = λ n i was. bc.keeps n i ((ab.left n i).0 was);
      adds = λ n i now. ⊎_elim (λ was. inl ((ab.left n i).1 was)) (λ at. inr (at.0 ∙ answers, at.1)) (bc.adds n i now);
    }

unlit_unwoken : (k : ℕ) (a b c : Seen) → IsUnlit a b → IsUnwoken k b c → IsUnlit a c
unlit_unwoken k a b c ab bc = record {
  first = ab.first;
  last = ab.last;
  woken = record { was = ab.woken.was; woke = ap (λ (m : Marks). m.woke (a.marks.answers + 1)) bc.keeps.marks ∙ ab.woken.woke; stands = ab.woken.stands };
  answers = ap (λ (m : Marks). m.answers) bc.keeps.marks ∙ ab.answers;
  leaves = λ i now. ab.leaves i ((bc.keeps.leaves i).1 now);
  keeps = λ n i was. (bc.left n i).0 (ab.keeps n i was);
  adds = λ n i now. ab.adds n i ((bc.left n i).1 now);
}

-- what was woken again stands for what was woken first
unlit_woken : (a b c : Seen) (u : IsUnlit a b) (first last : List ℕ) → IsWoken first last b c → IsWoken u.first last a c
unlit_woken a b c u first last w = record {
  was = u.woken.was;
  woke = subst (λ (n : ℕ). c.marks.woke (n + 1) ≡ Some last) u.answers w.woke;
  stands = as_then u.first first last (u.leaves first w.was) w.stands;
}

unlit_unlit : (a b c : Seen) → IsUnlit a b → IsUnlit b c → IsUnlit a c
unlit_unlit a b c ab bc =
    let as_first : (i : List ℕ) → StandsAs bc.first i → StandsAs ab.first i = λ i s. as_then ab.first bc.first i (ab.leaves bc.first bc.woken.was) s in
    record {
      first = ab.first;
      last = bc.last;
      woken = unlit_woken a b c ab bc.first bc.last bc.woken;
      answers = bc.answers ∙ ab.answers;
      leaves = λ i now. as_first i (bc.leaves i now);
      keeps = λ n i was. bc.keeps n i (ab.keeps n i was);
      adds = λ n i now. ⊎_elim (ab.adds n i) (λ at. inr (at.0 ∙ ab.answers, as_first i at.1)) (bc.adds n i now);
    }

unwoken_relit : (k : ℕ) (held : Option FullCard) (a b c : Seen) → IsUnwoken k a b → IsRelit held b c → IsRelit held a c
unwoken_relit k held a b c ab bc =
    let answers : b.marks.answers ≡ a.marks.answers = ap (λ (m : Marks). m.answers) ab.keeps.marks in
    record {
      first = bc.first;
      last = bc.last;
      woken = unwoken_woken k a b c bc.first bc.last ab bc.woken;
      card = bc.card;
      lit = bc.lit;
      stood = bc.stood;
      settled = bc.settled;
      answers = bc.answers ∙ ap (λ (n : ℕ). n + 1) answers;
      keeps = λ n i was. bc.keeps n i ((ab.left n i).0 was);
      adds = λ n i now. ⊎_elim (λ was. inl ((ab.left n i).1 was)) (λ more. inr (⊎_elim (λ at. inl (at.0 ∙ answers, at.1)) (λ at. inr (at.0 ∙ ap (λ (m : ℕ). m + 1) answers, at.1)) more)) (bc.adds n i now);
    }

unlit_relit : (held : Option FullCard) (a b c : Seen) → IsUnlit a b → IsRelit held b c → IsRelit held a c
unlit_relit held a b c ab bc =
    let as_first : (i : List ℕ) → StandsAs bc.first i → StandsAs ab.first i = λ i s. as_then ab.first bc.first i (ab.leaves bc.first bc.woken.was) s in
    record {
      first = ab.first;
      last = bc.last;
      woken = unlit_woken a b c ab bc.first bc.last bc.woken;
      card = bc.card;
      lit = bc.lit;
      stood = bc.stood;
      settled = bc.settled;
      answers = bc.answers ∙ ap (λ (n : ℕ). n + 1) ab.answers;
      keeps = λ n i was. bc.keeps n i (ab.keeps n i was);
      adds = λ n i now. ⊎_elim (λ was. ⊎_elim inl (λ at. inr (inl at)) (ab.adds n i was)) (λ more. inr (⊎_elim (λ at. inl (at.0 ∙ ab.answers, as_first i at.1)) (λ at. inr (at.0 ∙ ap (λ (m : ℕ). m + 1) ab.answers, at.1)) more)) (bc.adds n i now);
    }

none_before : (n m : ℕ) (s : Seen) → n ≡ m → WokeAsNone (n + 1) s → WokeAsNone (m + 1) s
none_before n m s e h = subst (λ (k : ℕ). WokeAsNone (k + 1) s) e h

-- spent tries, and one more
pub cycles_then : (k : ℕ) (end : SettleEnd) (a b c : Seen) → Cycles k settle_end.Spent a b → Cycles 1 end b c → Cycles (k + 1) end a c
cycles_then k (settle_end.Lit held) a b c ab bc = ⊎_elim (λ off. unwoken_relit k held a b c off bc) (λ on. unlit_relit held a b c on bc) ab
cycles_then k settle_end.Spent a b c ab bc =
    ⊎_elim
    (λ off. ⊎_elim (λ still. inl (unwoken_unwoken k a b c off still)) (λ on. inr (unwoken_unlit k a b c off on)) bc)
    (λ on. ⊎_elim (λ off. inr (unlit_unwoken 1 a b c on off)) (λ again. inr (unlit_unlit a b c on again)) bc)
    ab
cycles_then k settle_end.Unrecognised a b c ab bc =
    ⊎_elim
    (λ off. (unwoken_unlit k a b c off bc.0, none_before b.marks.answers a.marks.answers c (ap (λ (m : Marks). m.answers) off.keeps.marks) bc.1))
    (λ on. (unlit_unlit a b c on bc.0, none_before b.marks.answers a.marks.answers c on.answers bc.1))
    ab
cycles_then k settle_end.NoMemory a b c ab bc = ⊎_elim (λ off. unwoken_unlit k a b c off bc) (λ on. unlit_unlit a b c on bc) ab

-- fewer tries than were granted
pub cycles_within : (k n : ℕ) (end : SettleEnd) (a b : Seen) → (end ≡ settle_end.Spent → ⊥) → Cycles k end a b → Cycles n end a b
cycles_within k n (settle_end.Lit held) a b lit h = h
cycles_within k n settle_end.Spent a b lit h = absurd (lit refl)
cycles_within k n settle_end.Unrecognised a b lit h = h
cycles_within k n settle_end.NoMemory a b lit h = h

-- how so many tries ended
pub record IsEnd (tries : ℕ) (end : SettleEnd) (old new : Seen) : Type 0 where
  pub cause : HasCauseOfSettle tries end old new
  pub cost : IfTold old (Costs tries end old.tally new.tally)
  pub cycles : IfTold old (Cycles tries end old new)

pub end_none : (s : Seen) → IsEnd 0 settle_end.Spent s s
end_none s = record {
  cause = record { told = refl; monotone = omega arith; spent = λ is. omega arith };
  cost = λ told. costs_none s.tally;
  cycles = λ told. cycles_none s;
}

pub end_then : (k : ℕ) (end : SettleEnd) (a b c : Seen) → IsEnd k settle_end.Spent a b → IsEnd 1 end b c → IsEnd (k + 1) end a c
end_then k end a b c ab bc = record {
  cause = caused_then k end a b c ab.cause bc.cause;
  cost = λ told. costs_then k end a.tally b.tally c.tally (ab.cost told) (bc.cost (ab.cause.told ∙ told));
  cycles = λ told. cycles_then k end a b c (ab.cycles told) (bc.cycles (ab.cause.told ∙ told));
}

pub end_within : (k n : ℕ) (end : SettleEnd) (a b : Seen) → k ≤ n → (end ≡ settle_end.Spent → ⊥) → IsEnd k end a b → IsEnd n end a b
end_within k n end a b le lit h = record {
  cause = caused_within k n end a b lit h.cause;
  cost = λ told. costs_within k n end a.tally b.tally le lit (h.cost told);
  cycles = λ told. cycles_within k n end a b lit (h.cycles told);
}

-- one try whose power cycle failed
pub end_failed : {T E : Type 0} (a b : Seen) (e : E) → IfTold a (Sound 346624 a) → HasCause {T = T} a b (Err e) → IfTold a (Woken {T = T} a b (Err e)) → IsEnd 1 settle_end.Spent a b
end_failed a b e sound cause woken = record {
  cause = record { told = cause.told; monotone = cause.monotone; spent = λ is. cause.failed };
  cost = λ told. costs_failed a.tally b.tally (woken told).tally;
  cycles = λ told. cycle_failed a b e (sound told) (woken told);
}

-- how a try ends with this opening
abbrev pub end_with : Result (Option FullCard) OpenError → SettleEnd
end_with (Ok held) = settle_end.Lit held
end_with (Err open_end.Failed) = settle_end.Spent
end_with (Err open_end.Unrecognised) = settle_end.Unrecognised
end_with (Err open_end.NoMemory) = settle_end.NoMemory

opened_cause : (result : Result (Option FullCard) OpenError) (m b : Seen) → HasCauseOf open_end.Failed m b result → end_with result ≡ settle_end.Spent → RoseBy 1 m.faults b.faults
opened_cause (Ok held) m b cause is = absurd (cc is)
opened_cause (Err open_end.Failed) m b cause is = cause.cause refl
opened_cause (Err open_end.Unrecognised) m b cause is = absurd (cc is)
opened_cause (Err open_end.NoMemory) m b cause is = absurd (cc is)

opened_cost : (result : Result (Option FullCard) OpenError) (a m b : Seen) → m.tally ≡ record a.tally { cut = false } → Opens result m b → Costs 1 (end_with result) a.tally b.tally
opened_cost (Ok held) a m b e o = costs_opened true (settle_end.Lit held) a.tally m.tally b.tally (λ is. absurd (cc is)) e o.answered.ended.went
opened_cost (Err open_end.Failed) a m b e o = costs_opened false settle_end.Spent a.tally m.tally b.tally (λ is. refl) e o.ran.went
opened_cost (Err open_end.Unrecognised) a m b e o = costs_opened true settle_end.Unrecognised a.tally m.tally b.tally (λ is. absurd (cc is)) e o.0.ran.went
opened_cost (Err open_end.NoMemory) a m b e o = costs_opened true settle_end.NoMemory a.tally m.tally b.tally (λ is. absurd (cc is)) e o.0.ran.went

opened_cycles : {T E : Type 0} (result : Result (Option FullCard) OpenError) (a m b : Seen) (x : T) → Woken {E = E} a m (Ok x) → Opens result m b → Cycles 1 (end_with result) a b
opened_cycles (Ok held) a m b x w o = relit_by held a m b x w o
opened_cycles (Err open_end.Failed) a m b x w o = inr (unlit_by false a m b x w o)
opened_cycles (Err open_end.Unrecognised) a m b x w o = (unlit_by true a m b x w o.0, foreign_by a m b x w o.0 o.1)
opened_cycles (Err open_end.NoMemory) a m b x w o = unlit_by true a m b x w o.0

-- one try whose power cycle succeeded
pub end_opened : {T E : Type 0} (result : Result (Option FullCard) OpenError) (a m b : Seen) (x : T) → HasCause {E = E} a m (Ok x) → IfTold a (Woken {E = E} a m (Ok x)) → HasCauseOf open_end.Failed m b result → IfTold m (Opens result m b) → IsEnd 1 (end_with result) a b
end_opened result a m b x was woken cause opens = record {
  cause = record {
    told = cause.told ∙ was.told;
    monotone = omega (arith, was.monotone, cause.monotone);
    spent = λ is. risen a.faults m.faults b.faults was.monotone (opened_cause result m b cause is);
  };
  cost = λ told. opened_cost result a m b (woken told).tally (opens (was.told ∙ told));
  cycles = λ told. opened_cycles result a m b x (woken told) (opens (was.told ∙ told));
}
  where
    risen : (x y z : ℕ) → x ≤ y → RoseBy 1 y z → RoseBy 1 x z
    risen x y z le rose = omega (arith, le, rose)

pub end_unopened : {T E : Type 0} (found error : OpenError) (a m b : Seen) (x : T) → found ≡ error → HasCause {E = E} a m (Ok x) → IfTold a (Woken {E = E} a m (Ok x)) → HasCauseOf {T = Option FullCard} open_end.Failed m b (Err found) → IfTold m (Opens (Err found) m b) → IsEnd 1 (end_with (Err error)) a b
end_unopened found error a m b x is was woken cause opens =
    subst (λ (e : OpenError). IsEnd 1 (end_with (Err e)) a b) is (end_opened (Err found) a m b x was woken cause opens)

-- all tries were spent
pub end_spent : (k n : ℕ) (a b : Seen) → k ≤ n → n ≤ k → IsEnd k settle_end.Spent a b → IsEnd n settle_end.Spent a b
end_spent k n a b most least h =
    let all : k ≡ n = omega (arith, most, least) in subst (λ (m : ℕ). IsEnd m settle_end.Spent a b) all h

-- spent tries, and the last one
pub end_last : (k n : ℕ) (end : SettleEnd) (a b c : Seen) → k + 1 ≤ n → (end ≡ settle_end.Spent → ⊥) → IsEnd k settle_end.Spent a b → IsEnd 1 end b c → IsEnd n end a c
end_last k n end a b c within last ab bc = end_within (k + 1) n end a c within last (end_then k end a b c ab bc)
