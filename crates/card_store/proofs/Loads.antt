-- Recovery and reading, as one load.
use Rattle.std.proofs.Common.{◌≡◌, ◌⊎◌, ⊎_elim, ℕ, true, List, refl, sym, ap, subst, ◌∙◌, arith, inl, inr}
use Rattle.std.specs.Prelude.{Result, Ok, Err, None}
use Rattle.iot_bytes.specs.declared.memory.ReadError.{ReadError}
use Rattle.iot_bytes.specs.declared.memory.ReadError.TheVariants.{Malformed, NoMemory}
use Rattle.chip_port.specs.Seen.{Seen}
use Rattle.chip_port.specs.Runs.{Ran}
use Rattle.chip_port.proofs.Runs.{ran_none, ran_then, ran_most}
use Rattle.undo_journal.specs.Home.{home, home_in}
use Rattle.undo_journal.specs.Recover.{Recovers, Recovered}
use Rattle.undo_journal.specs.declared.recovery.RecoverEnd.{RecoverEnd}
use Rattle.undo_journal.specs.declared.recovery.RecoverEnd.TheVariants as recovery
use Rattle.small_card.specs.Cards.{FullCard}
use Rattle.home_codec.specs.Homes.{HasFields, IsHomeOf}
use Rattle.home_codec.specs.FullCards.{full_card}
use Rattle.std.proofs.lemmas.Option.{same_Some}
use Rattle.card_store.specs.Standing.{Stands}
use Rattle.card_store.specs.Looking.{Looks}
use Rattle.card_store.specs.Loading.{StandsAs, IsAsBefore, IsKept, Loads, ReadsFields, ReadsCard, of_recovery, of_reading}
use Rattle.home_codec.specs.declared.card.Card.{Card}
use Rattle.card_store.specs.declared.ends.LoadEnd.{LoadEnd}
use Rattle.card_store.specs.declared.ends.LoadEnd.TheVariants as load
use Rattle.card_store.proofs.Cards.{stands_same, idle_settled, settled_stays}
use Rattle.card_store.proofs.Looking.{looks_ran}

as_before : (a : Seen) (i : List ℕ) → a.leaves i ⊎ (home i ≡ home a.reads) → IsAsBefore a i
as_before a i h = ⊎_elim (λ was. inl was) (λ same. inr (λ d s. stands_same d i a.reads same s)) h

adds_before : (k : ℕ) (a b : Seen) → ((k : ℕ) (i : List ℕ) → b.left k i → a.left k i ⊎ ((k ≡ a.marks.answers) × (home i ≡ home a.reads))) → (i : List ℕ) → b.left k i → a.left k i ⊎ ((k ≡ a.marks.answers) × StandsAs a.reads i)
adds_before k a b h i now = ⊎_elim (λ was. inl was) (λ n. inr (n.0, λ d s. stands_same d i a.reads n.1 s)) (h k i now)

-- the images that were added since recovery
adds_after : (k : ℕ) (a b c : Seen) → ((k : ℕ) (i : List ℕ) → b.left k i → a.left k i ⊎ ((k ≡ a.marks.answers) × (home i ≡ home a.reads))) → ((k : ℕ) (i : List ℕ) → c.left k i → b.left k i ⊎ ((k ≡ b.marks.answers) × b.leaves i)) → (b.marks ≡ a.marks) → ((i : List ℕ) → b.leaves i → home i ≡ home a.reads)
    → (i : List ℕ) → c.left k i → a.left k i ⊎ ((k ≡ a.marks.answers) × StandsAs a.reads i)
adds_after k a b c first second marks here i now =
    ⊎_elim (λ was. adds_before k a b first i was) (λ n. inr (n.0 ∙ ap (λ m. m.answers) marks, λ d s. stands_same d i a.reads (here i n.1) s)) (second k i now)

recovered_here : (a b : Seen) → Recovered a b → (i : List ℕ) → b.leaves i → home i ≡ home a.reads
recovered_here a b r i was = ap home (r.idle.settled i was) ∙ r.home_is

-- the run of a recovery
recovered_run : (a b : Seen) → a.told ≡ true → Recovers (Ok tt) a b → Ran 1352 true (IsAsBefore a) a b
recovered_run a b told r = ran_then (ran_none (IsAsBefore a) a told (λ i was. inl was)) r.ran (as_before a)

-- the run of a recovery and a look
recovered_looks : (a b c : Seen) → a.told ≡ true → Recovers (Ok tt) a b → Looks 673 b c → Ran 6000 true (IsAsBefore a) a c
recovered_looks a b c told r l =
    ran_most (omega arith) (ran_then (recovered_run a b told r) (looks_ran 673 b.leaves b c l (λ i was. was)) (λ i was. inr (λ d s. stands_same d i a.reads (recovered_here a b r.done i was) s)))

looks_add : (n : ℕ) (b c : Seen) → Looks n b c → (k : ℕ) (i : List ℕ) → c.left k i → b.left k i ⊎ ((k ≡ b.marks.answers) × b.leaves i)
looks_add n b c l k i now = inl ((l.left k i).1 now)

-- a card whose home was there has the home that recovery left
recovered_fields : (d : FullCard) (a b : Seen) → Recovered a b → Stands d a.reads → HasFields d (home_in b.reads)
recovered_fields d a b r s = let same : s.blocks ≡ home_in b.reads = same_Some _ _ (sym s.there ∙ r.home_was) in subst (λ (l : List ℕ). HasFields d l) same s.fields

kept_after : (a b c : Seen) → Recovered a b → Looks 673 b c → IsKept a c
kept_after a b c r l = record {
  reads = λ d s. stands_same d c.reads a.reads (ap home l.keeps.reads ∙ r.home_is) s;
  settled = λ d h. settled_stays d b c l.keeps.reads l.keeps.leaves (idle_settled d b r.idle (recovered_fields d a b r h.stands) h.stands.valid);
}

-- recovery, and then reading
pub loads_read : (e : Result Card LoadEnd) (a b c : Seen) → a.told ≡ true → Recovers (Ok tt) a b → ReadsCard e b c → Loads e a c
loads_read (Ok card) a b c told r h =
    let d = full_card card in
    record {
      end = (
        recovered_looks a b c told r h.0,
        record {
          stood = record { blocks = home_in b.reads; there = r.done.home_was; fields = h.1.fields; valid = h.1.valid };
          settled = settled_stays d b c h.0.keeps.reads h.0.keeps.leaves (idle_settled d b r.done.idle h.1.fields h.1.valid);
        },
      );
      adds = λ k i now. adds_after k a b c r.adds (looks_add 673 b c h.0) r.ran.marks (recovered_here a b r.done) i now;
    }
loads_read (Err load.Failed) a b c told r h = record {
  end = ran_most (omega arith) (ran_then (recovered_run a b told r) h (λ i was. inr (λ d s. stands_same d i a.reads (recovered_here a b r.done i was) s)));
  adds = λ k i now. adds_after k a b c r.adds h.adds r.ran.marks (recovered_here a b r.done) i now;
}
loads_read (Err load.Unrecognised) a b c told r h = record {
  end = (recovered_looks a b c told r h.0, λ d s. h.1 d (record { fields = recovered_fields d a b r.done s; valid = s.valid }));
  adds = λ k i now. adds_after k a b c r.adds (looks_add 673 b c h.0) r.ran.marks (recovered_here a b r.done) i now;
}
loads_read (Err load.NoMemory) a b c told r h = record {
  end = (recovered_looks a b c told r h, kept_after a b c r.done h);
  adds = λ k i now. adds_after k a b c r.adds (looks_add 673 b c h) r.ran.marks (recovered_here a b r.done) i now;
}

none_stands : (d : FullCard) (image : List ℕ) → home image ≡ None → Stands d image → ⊥
none_stands d image none s = absurd (cc (none, s.there))

-- recovery that found no home, failed, or wanted memory
pub loads_failed : (a b : Seen) → a.told ≡ true → Recovers (Err recovery.Failed) a b → Loads (Err load.Failed) a b
loads_failed a b told r = record {
  end = ran_most (omega arith) (ran_then (ran_none (IsAsBefore a) a told (λ i was. inl was)) r.ran (as_before a));
  adds = λ k i now. adds_before k a b r.adds i now;
}

pub loads_foreign : (a b : Seen) → a.told ≡ true → Recovers (Err recovery.Foreign) a b → Loads (Err load.Unrecognised) a b
loads_foreign a b told r = record {
  end = (ran_most (omega arith) (ran_then (ran_none (IsAsBefore a) a told (λ i was. inl was)) r.ran (as_before a)), λ d s. none_stands d a.reads r.foreign.none s);
  adds = λ k i now. adds_before k a b r.adds i now;
}

pub loads_no_memory : (a b : Seen) → a.told ≡ true → Recovers (Err recovery.NoMemory) a b → Loads (Err load.NoMemory) a b
loads_no_memory a b told r =
    let keeps = r.no_memory.keeps in
    record {
      end = (
        ran_most (omega arith) (ran_then (ran_none (IsAsBefore a) a told (λ i was. inl was)) r.ran (as_before a)),
        record {
          reads = λ d s. stands_same d b.reads a.reads (ap home keeps.reads) s;
          settled = λ d h. settled_stays d a b keeps.reads keeps.leaves h;
        },
      );
      adds = λ k i now. adds_before k a b r.adds i now;
    }

-- recovery that ended without a home
pub loads_ended : (e : RecoverEnd) (a b : Seen) → a.told ≡ true → Recovers (Err e) a b → Loads (Err (of_recovery e)) a b
loads_ended recovery.Failed a b told r = loads_failed a b told r
loads_ended recovery.Foreign a b told r = loads_foreign a b told r
loads_ended recovery.NoMemory a b told r = loads_no_memory a b told r

-- reading that ended without a card
pub fields_unread : (e : ReadError) (blocks : List ℕ) → (e ≡ Malformed → (d : FullCard) → IsHomeOf d blocks → ⊥) → ReadsFields (Err (of_reading e)) blocks
fields_unread Malformed blocks none = none refl
fields_unread NoMemory blocks none = tt
