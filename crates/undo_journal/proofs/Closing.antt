-- Closing the gate.
use Rattle.std.proofs.Common.{◌≡◌, ◌⊎◌, inl, ℕ, true, List, [], ◌∷◌, subst, ap, ◌∙◌}
use Rattle.std.specs.Prelude.{Some, ◌==◌, Result, Ok, is_ok}
use Rattle.chip_port.specs.Seen.{Seen}
use Rattle.chip_port.specs.Rules.{Torn, Only, put, HasCause, IfTold, Synced, Written, Sound}
use Rattle.chip_port.specs.Runs.{Ran}
use Rattle.chip_port.proofs.Runs.{ran_none, ran_write, ran_sync}
use Rattle.undo_journal.specs.Home.{home, home_in, same_octets, magic, AreBlocks}
use Rattle.undo_journal.specs.States.{EachOf, IsOpenOver, ClosesGate}
use Rattle.undo_journal.proofs.Gates.{opened_home, closing, put_gate}
use Rattle.undo_journal.proofs.Torn.{gate_opened}

-- the home before, or the one that was written
abbrev pub BeforeOrAfter : List ℕ → List ℕ → List ℕ → Type 0
BeforeOrAfter before after i = (home i ≡ Some before) ⊎ (home i ≡ Some (home_in after))

-- the home blocks are synced
pub home_synced : {T E : Type 0} {blocks old before : List ℕ} {a b : Seen} {result : Result T E} → AreBlocks blocks → EachOf a.leaves (IsOpenOver blocks old before) → a.told ≡ true
    → HasCause a b result → IfTold a (Synced a b result) → Ran 1 (is_ok result) (BeforeOrAfter before a.reads) a b
home_synced {T} {E} {blocks} {old} {before} {a} are all told cause synced =
    ran_sync (ran_none (BeforeOrAfter before a.reads) a told (λ i was. inl (opened_home blocks old before i are (all i was)))) cause synced

-- the gate octet is being written over one image
pub gate_torn : (blocks old before image : List ℕ) (leaves : List ℕ → Type 0) → AreBlocks blocks → IsOpenOver blocks old before image → Only image leaves → (d i : List ℕ) → leaves d → Torn 256 1 d i → BeforeOrAfter before image i
gate_torn blocks old before image leaves are o only d i was t = closing blocks old before image i are o (subst (λ (l : List ℕ). Torn 256 1 l i) (only d was) t)

-- the gate is written and synced
pub gate_closed : {T U V E : Type 0} {blocks old before : List ℕ} {a b c d : Seen} {x : T} {y : U} {result : Result V E} → AreBlocks blocks → EachOf a.leaves (IsOpenOver blocks old before) → Sound 346624 a → a.told ≡ true
    → HasCause {T = T} {E = E} a b (Ok x) → IfTold a (Synced {T = T} {E = E} a b (Ok x)) → HasCause {T = U} {E = E} b c (Ok y) → IfTold b (Written {T = U} {E = E} 256 (0 ∷ []) b c (Ok y))
    → HasCause c d result → IfTold c (Synced c d result) → ClosesGate before (is_ok result) a d
gate_closed {T} {U} {V} {E} {blocks} {old} {before} {a} {b} {c} {d} {x} {y} {result} are all sound told cause synced cause' written cause'' settled =
    let now = all a.reads sound.reads_now in
    let run = ran_write (home_synced are all told cause synced) cause' written (gate_torn blocks old before a.reads b.leaves are now (synced told).done) in
    let told' = cause.told ∙ told in
    let told'' = cause'.told ∙ told' in
    record {
      ran = ran_sync run cause'' settled;
      idle = λ ok.
          let last = gate_opened result (written told') (settled told'') ok in
          let gate = put_gate d.reads a.reads 0 (sound.sized a.reads sound.reads_now) (last.0 ∙ ap (λ (l : List ℕ). put l 256 (0 ∷ [])) (synced told).reads) in
          record {
            settled = last.1;
            front = ap (λ (l : List ℕ). same_octets l magic) gate.1 ∙ now.keeps.front;
            shut = ap (λ (n : ℕ). n == 165) gate.2;
          };
      gate = λ ok.
          let last = gate_opened result (written told') (settled told'') ok in
          (put_gate d.reads a.reads 0 (sound.sized a.reads sound.reads_now) (last.0 ∙ ap (λ (l : List ℕ). put l 256 (0 ∷ [])) (synced told).reads)).2;
      content = λ ok.
          let last = gate_opened result (written told') (settled told'') ok in
          last.0 ∙ ap (λ (l : List ℕ). put l 256 (0 ∷ [])) (synced told).reads;
      home_now = λ ok.
          let last = gate_opened result (written told') (settled told'') ok in
          (put_gate d.reads a.reads 0 (sound.sized a.reads sound.reads_now) (last.0 ∙ ap (λ (l : List ℕ). put l 256 (0 ∷ [])) (synced told).reads)).0;
    }
