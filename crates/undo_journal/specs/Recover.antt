-- What recovery does to the chip.
use Rattle.std.specs.Prelude.{◌≡◌, ◌⊎◌, ℕ, ◌≤◌, Bool, true, false, List, Some, None, Result, Ok, Err, IfOk, IsErrOf}
use Rattle.iot_bytes.specs.Causes.{Rose}
use Rattle.chip_port.specs.Seen.{Seen}
use Rattle.chip_port.specs.Rules.{Untouched}
use Rattle.chip_port.specs.Runs.{Ran}
use Rattle.undo_journal.specs.declared.recovery.RecoverEnd.{RecoverEnd}
use Rattle.undo_journal.specs.declared.recovery.RecoverEnd.TheVariants.{Failed, Foreign, NoMemory}
use Rattle.undo_journal.specs.declared.layout.TheConstants.{CLOSED}
use Rattle.undo_journal.specs.Home.{home, home_in, is_open, gate_of}
use Rattle.undo_journal.specs.States.{IsIdle}

-- no call of the chip failed
abbrev pub unfailed : {T : Type 0} → Result T RecoverEnd → Bool
unfailed (Ok x) = true
unfailed (Err Failed) = false
unfailed (Err Foreign) = true
unfailed (Err NoMemory) = true

abbrev pub IfForeign : {T : Type 0} → Result T RecoverEnd → Type 0 → Type 0
IfForeign (Ok x) P = Unit {0}
IfForeign (Err Failed) P = Unit {0}
IfForeign (Err Foreign) P = P
IfForeign (Err NoMemory) P = Unit {0}

abbrev pub IfNoMemory : {T : Type 0} → Result T RecoverEnd → Type 0 → Type 0
IfNoMemory (Ok x) P = Unit {0}
IfNoMemory (Err Failed) P = Unit {0}
IfNoMemory (Err Foreign) P = Unit {0}
IfNoMemory (Err NoMemory) P = P

-- on every chip: the count of faults never falls, and the end Failed comes only where it rose
pub record HasCauseOfEnd {T : Type 0} (old new : Seen) (result : Result T RecoverEnd) : Type 0 where
  pub told : new.told ≡ old.told
  pub monotone : old.faults ≤ new.faults
  pub failed : IsErrOf result Failed → Rose old.faults new.faults

-- nothing was written: the content is as before, and a cut may leave, and may have left, no image more
pub record WritesNothing (old new : Seen) : Type 0 where
  pub reads : new.reads ≡ old.reads
  pub leaves : (i : List ℕ) → new.leaves i → old.leaves i
  pub left : (k : ℕ) (i : List ℕ) → new.left k i → old.left k i

-- the chip is idle, with the home that was there
pub record Recovered (old new : Seen) : Type 0 where
  pub idle : IsIdle new
  pub home_was : home old.reads ≡ Some (home_in new.reads)
  pub home_is : home new.reads ≡ home old.reads

-- no home was there
pub record NoHome (old new : Seen) : Type 0 where
  pub none : home old.reads ≡ None
  pub nothing : WritesNothing old new

-- a closed gate stays as it is, and an open one is closed by the octet 00
pub record ClosedGate (old new : Seen) : Type 0 where
  pub was_shut : is_open old.reads ≡ false → gate_of new.reads ≡ gate_of old.reads
  pub was_open : is_open old.reads ≡ true → gate_of new.reads ≡ CLOSED

-- recovery: whatever a cut leaves at any moment of it could be left at its start, or has the home that was there; behind a closed gate nothing is written, however it ends
pub record Recovers (result : Result (Unit {0}) RecoverEnd) (old new : Seen) : Type 0 where
  pub ran : Ran 1352 (unfailed result) (λ i. old.leaves i ⊎ (home i ≡ home old.reads)) old new
  pub adds : (k : ℕ) (i : List ℕ) → new.left k i → old.left k i ⊎ ((k ≡ old.marks.answers) × (home i ≡ home old.reads))
  pub shut : is_open old.reads ≡ false → WritesNothing old new
  pub done : IfOk result (λ _. Recovered old new)
  pub gate : IfOk result (λ _. ClosedGate old new)
  pub foreign : IfForeign result (NoHome old new)
  pub no_memory : IfNoMemory result (Untouched (λ t. t) old new)
