-- What a chip in a file shows: its faults and its spare room, and nothing of its content.
use Rattle.std.specs.Prelude.{◌≡◌, ℕ, Bool, true, false, [], None, is_some, Result, Ok, Err}
use Rattle.chip_port.specs.Seen.{Seen, up}
use Rattle.chip_port.specs.Rules.{IfTold}
use Rattle.file_chip.specs.declared.file.FileChip.{FileChip}

-- a chip that tells nothing
abbrev pub untold : ℕ → ℕ → ℕ → Seen
untold faults calls octets = record {
  told = false;
  faults = faults;
  spare = record { calls = calls; octets = octets };
  reads = [];
  leaves = λ image. ⊥;
  left = λ n image. ⊥;
  marks = record { answers = 0; cuts_at = λ n. 0; breaks_at = λ n. 0; woke = λ n. None };
  tally = record { uses = 0; cuts = 0; breaks = 0; plans = 0; plan = None; cut = false };
}

-- what a chip in a file shows
abbrev pub sees_of : {F : Type 0} → FileChip F → Seen
sees_of c = untold c.faults c.calls c.octets

-- nothing was counted yet, and no room was made
pub record IsFresh {F : Type 0} (c : FileChip F) : Type 0 where
  pub faults : c.faults ≡ 0
  pub calls : c.calls ≡ 0
  pub octets : c.octets ≡ 0

-- what is claimed of a chip that tells its content is claimed of it in vain
pub nothing_told : (faults calls octets : ℕ) (P : Type 0) → IfTold (untold faults calls octets) P
nothing_told faults calls octets P told = absurd cc

-- whether the file could be had
abbrev pub has_file : {F : Type 0} → FileChip F → Bool
has_file c = is_some c.file

-- a success needs the file, and a failure is counted once
abbrev pub IsServed : {T E : Type 0} → Bool → ℕ → ℕ → Result T E → Type 0
IsServed file old new (Ok value) = (file ≡ true) × (new ≡ old)
IsServed file old new (Err error) = new ≡ up old

-- the file stays the same one; where it can't be had each call fails and is counted
pub record Serves {F T E : Type 0} (old new : FileChip F) (result : Result T E) : Type 0 where
  pub file : has_file new ≡ has_file old
  pub served : IsServed (has_file old) old.faults new.faults result
