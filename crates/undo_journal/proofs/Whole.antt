-- The whole of a recovery.
use Rattle.std.proofs.Common.{◌≡◌, ◌⊎◌, ⊎_elim, inl, inr, ℕ, Bool, true, false, List, take, get_or, sym, ◌∙◌, ap, subst, arith}
use Rattle.std.specs.Prelude.{Some, Result, Ok, Err, IfOk, OnOk, ◌==◌}
use Rattle.chip_port.specs.Seen.{Seen}
use Rattle.chip_port.specs.Runs.{Ran}
use Rattle.chip_port.proofs.Runs.{ran_none, ran_then, ran_most, ran_since}
use Rattle.undo_journal.specs.declared.recovery.RecoverEnd.{RecoverEnd}
use Rattle.undo_journal.specs.declared.recovery.RecoverEnd.TheVariants.{Failed, Foreign, NoMemory}
use Rattle.undo_journal.specs.Home.{same_octets, magic, home, home_in, is_open, gate_of}
use Rattle.undo_journal.specs.States.{IsIdle}
use Rattle.undo_journal.specs.Recover.{IfForeign, IfNoMemory, WritesNothing, NoHome, Recovered, ClosedGate, Recovers}
use Rattle.undo_journal.specs.Steps.{Begins, RollsBack}
use Rattle.undo_journal.proofs.Gates.{home_shut}

-- what a cut may leave counts as left
abbrev pub Counts : Seen → Type 0
Counts s = (i : List ℕ) → s.leaves i → s.left s.marks.answers i

-- a run whose images were there at entry
pub since_entry : {n : ℕ} {ok : Bool} {a b : Seen} → a.told ≡ true → Ran n ok a.leaves a b → Ran n ok (λ i. a.leaves i ⊎ (home i ≡ home a.reads)) a b
since_entry {n} {ok} {a} {b} told run = ran_most (omega arith) (ran_then (ran_none (λ i. a.leaves i ⊎ (home i ≡ home a.reads)) a told (λ i was. inl was)) run (λ i was. inl was))

-- such a run that leaves the content wrote nothing
pub wrote_nothing : {n : ℕ} {ok : Bool} {a b : Seen} → Ran n ok a.leaves a b → Counts a → b.reads ≡ a.reads → WritesNothing a b
wrote_nothing {n} {ok} {a} {b} run law same = record {
  reads = same;
  leaves = run.here;
  left = λ k i left. ⊎_elim (λ was. was) (λ now. subst (λ (m : ℕ). a.left m i) (sym now.0) (law i now.1)) (run.adds k i left);
}

nothing_then : (a b c : Seen) → WritesNothing a b → WritesNothing b c → WritesNothing a c
nothing_then a b c ab bc = record { reads = bc.reads ∙ ab.reads; leaves = λ i now. ab.leaves i (bc.leaves i now); left = λ k i now. ab.left k i (bc.left k i now) }

pub begun_err : (end : RecoverEnd) (a b : Seen) → a.told ≡ true → Counts a → Begins (Err end) a b → Recovers (Err end) a b
begun_err Failed a b told law s = let run = ran_most (omega arith) (since_entry told s.ran) in record { ran = run; adds = ran_since run law; shut = λ _. s.nothing; done = tt; gate = tt; foreign = s.foreign; no_memory = s.no_memory }
begun_err Foreign a b told law s = let run = ran_most (omega arith) (since_entry told s.ran) in record { ran = run; adds = ran_since run law; shut = λ _. s.nothing; done = tt; gate = tt; foreign = s.foreign; no_memory = s.no_memory }
begun_err NoMemory a b told law s = let run = ran_most (omega arith) (since_entry told s.ran) in record { ran = run; adds = ran_since run law; shut = λ _. s.nothing; done = tt; gate = tt; foreign = s.foreign; no_memory = s.no_memory }

not_both : {X : Type 0} (b : Bool) → b ≡ true → b ≡ false → X
not_both b on off = absurd (cc (on, off))

-- behind a closed gate there is nothing to put back
pub begun_shut : (a b : Seen) → a.told ≡ true → Counts a → Begins (Ok false) a b → Recovers (Ok tt) a b
begun_shut a b told law s =
    let run = ran_most (omega arith) (since_entry told s.ran) in
    let same = s.found.same in
    record {
      ran = run;
      adds = ran_since run law;
      shut = λ _. s.nothing;
      gate = record { was_shut = λ _. ap gate_of same; was_open = λ opened. not_both (is_open a.reads) opened (sym s.found.gate) };
      foreign = tt;
      no_memory = tt;
      done = record {
        idle = record {
          settled = s.found.settled;
          front = ap (λ (l : List ℕ). same_octets (take 8 l) magic) same ∙ s.found.front;
          shut = ap (λ (l : List ℕ). get_or l 256 0 == 165) same ∙ sym s.found.gate;
        };
        home_was = home_shut a.reads s.found.front (sym s.found.gate) ∙ ap (λ (l : List ℕ). Some (home_in l)) (sym same);
        home_is = ap home same;
      };
    }

never : {T : Type 0} (r : Result T RecoverEnd) (P : Type 0) → IfNoMemory r ⊥ → IfNoMemory r P
never (Ok x) P h = tt
never (Err Failed) P h = tt
never (Err Foreign) P h = tt
never (Err NoMemory) P h = absurd h

no_home : {T : Type 0} (r : Result T RecoverEnd) (a b c : Seen) → WritesNothing a b → IfForeign r (NoHome b c) → IfForeign r (NoHome a c)
no_home (Ok x) a b c ab h = tt
no_home (Err Failed) a b c ab h = tt
no_home (Err Foreign) a b c ab h = record { none = ap home (sym ab.reads) ∙ h.none; nothing = nothing_then a b c ab h.nothing }
no_home (Err NoMemory) a b c ab h = tt

recovered : (r : Result (Unit {0}) RecoverEnd) (a b c : Seen) → b.reads ≡ a.reads → IfOk r (λ _. Recovered b c) → IfOk r (λ _. Recovered a c)
recovered (Ok x) a b c same h = record { idle = h.idle; home_was = ap home (sym same) ∙ h.home_was; home_is = h.home_is ∙ ap home same }
recovered (Err e) a b c same h = tt

closed_gate : (r : Result (Unit {0}) RecoverEnd) (a c : Seen) → is_open a.reads ≡ true → IfOk r (λ _. gate_of c.reads ≡ 0) → IfOk r (λ _. ClosedGate a c)
closed_gate (Ok x) a c opened h = record { was_shut = λ shut. not_both (is_open a.reads) opened shut; was_open = λ _. h }
closed_gate (Err e) a c opened h = tt

pub rolled : (r : Result (Unit {0}) RecoverEnd) (a b c : Seen) → a.told ≡ true → Counts a → Begins (Ok true) a b → RollsBack r b c → Recovers r a c
rolled r a b c told law s t =
    let same = s.found.same in
    let run = ran_then (since_entry told s.ran) t.ran (λ i e. inr (e ∙ ap home same)) in
    record {
      ran = run;
      adds = ran_since run law;
      shut = λ shut. not_both (is_open a.reads) (sym s.found.gate) shut;
      gate = closed_gate r a c (sym s.found.gate) t.gate;
      done = recovered r a b c same t.done;
      foreign = no_home r a b c s.nothing t.foreign;
      no_memory = never r _ t.no_memory;
    }

pub idle_if : (r : Result (Unit {0}) RecoverEnd) (b c : Seen) → (c.told ≡ true → RollsBack r b c) → OnOk r (c.told ≡ true → IsIdle c)
idle_if (Ok x) b c h = λ told. (h told).done.idle
idle_if (Err e) b c h = tt
