-- Looking at the chip without writing.
use Rattle.std.specs.Prelude.{◌≡◌, ◌≤◌, ℕ, List, true, false, Result, Ok, Err, IsErrOf}
use Rattle.iot_bytes.specs.Causes.{Rose}
use Rattle.chip_port.specs.Seen.{Seen}
use Rattle.chip_port.specs.Rules.{Same, Keeps}
use Rattle.chip_port.specs.Runs.{Ran, Smooth}
use Rattle.undo_journal.specs.Home.{home_in, block_of}

-- the chip was looked at and nothing was written: only calls were counted
pub record Looks (n : ℕ) (old new : Seen) : Type 0 where
  pub told : new.told ≡ true
  pub faults : new.faults ≡ old.faults
  pub keeps : Keeps old new
  pub left : (k : ℕ) → Same (old.left k) (new.left k)
  pub went : Smooth n old.tally new.tally

-- on every chip: the count of faults never falls, and this end comes only where it rose
pub record HasCauseOf {T E : Type 0} (failed : E) (old new : Seen) (result : Result T E) : Type 0 where
  pub told : new.told ≡ old.told
  pub monotone : old.faults ≤ new.faults
  pub cause : IsErrOf result failed → Rose old.faults new.faults

-- one home block was read, or the call failed
abbrev pub ReadsBlock : {E : Type 0} → ℕ → Result (List ℕ) E → Seen → Seen → Type 0
ReadsBlock block (Ok octets) old new = Looks 1 old new × (octets ≡ block_of (home_in old.reads) block)
ReadsBlock block (Err e) old new = Ran 1 false old.leaves old new
