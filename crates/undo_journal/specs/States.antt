-- The states of the journal, and what each call does to the chip.
use Rattle.std.specs.Prelude.{◌≡◌, ◌⊎◌, ℕ, ◌+◌, ◌*◌, ◌≤◌, Bool, true, false, List, [], ◌∷◌, length, take, drop, Some}
use Rattle.chip_port.specs.declared.chip.TheConstants.{CHIP_SIZE}
use Rattle.chip_port.specs.Seen.{Seen}
use Rattle.chip_port.specs.Rules.{put, Only, Torn}
use Rattle.chip_port.specs.Runs.{Ran}
use Rattle.undo_journal.specs.declared.layout.TheConstants.{GATE, CLOSED, OLD, HOME, BLOCK}
use Rattle.undo_journal.specs.Home.{directory_in, home_in, has_magic, is_open, gate_of, count_of, entries, put_back, home, block_of, kept}

-- one of these blocks
abbrev pub Has : ℕ → List ℕ → Type 0
Has b [] = ⊥
Has b (c ∷ cs) = (b ≡ c) ⊎ Has b cs

-- every image that a cut may leave
abbrev pub EachOf : (List ℕ → Type 0) → (List ℕ → Type 0) → Type 0
EachOf leaves P = (i : List ℕ) → leaves i → P i

-- the directory lists these blocks
pub record Lists (blocks directory : List ℕ) : Type 0 where
  pub counted : count_of directory ≡ length blocks
  pub listed : entries directory ≡ blocks

-- the magic, a directory of these blocks, and these old blocks
pub record Keeps (blocks old image : List ℕ) : Type 0 where
  pub size : length image ≡ CHIP_SIZE
  pub front : has_magic image ≡ true
  pub directory : Lists blocks (directory_in image)
  pub copies : take (BLOCK * length blocks) (drop OLD image) ≡ old

-- Idle: the magic is there, the gate is closed, and there is one image, the content
pub record IsIdle (s : Seen) : Type 0 where
  pub settled : Only s.reads s.leaves
  pub front : has_magic s.reads ≡ true
  pub shut : is_open s.reads ≡ false

-- Recorded: the gate is closed, the directory and the old blocks are those kept, and the home is as before
pub record IsRecorded (blocks before image : List ℕ) : Type 0 where
  pub keeps : Keeps blocks (kept blocks before) image
  pub shut : is_open image ≡ false
  pub home : home_in image ≡ before

-- the gate is open, the directory and the old blocks are these, and putting these back gives this home
pub record IsOpenOver (blocks old before image : List ℕ) : Type 0 where
  pub keeps : Keeps blocks old image
  pub opened : is_open image ≡ true
  pub home : put_back blocks old (home_in image) ≡ before

-- Opened: the gate is open, the directory and the old blocks are those kept, and the home blocks that were not kept are as before
abbrev pub IsOpened : List ℕ → List ℕ → List ℕ → Type 0
IsOpened blocks before image = IsOpenOver blocks (kept blocks before) before image

-- the fact of a state over every image that a cut may leave now
abbrev pub RecordedOn : List ℕ → Seen → Type 0
RecordedOn blocks s = (before : List ℕ) × EachOf s.leaves (IsRecorded blocks before)

abbrev pub OpenedOn : List ℕ → Seen → Type 0
OpenedOn blocks s = (before : List ℕ) × EachOf s.leaves (IsOpened blocks before)

-- no more than these spare calls and octets
pub record TakesAtMost (calls octets : ℕ) (old new : Seen) : Type 0 where
  pub calls_left : old.spare.calls ≤ new.spare.calls + calls
  pub octets_left : old.spare.octets ≤ new.spare.octets + octets

-- the old blocks of an idle chip are kept; whatever a cut leaves has the home that was there
pub record KeepsOld (blocks : List ℕ) (ok : Bool) (old new : Seen) : Type 0 where
  pub ran : Ran (2 * length blocks + 2) ok (λ i. home i ≡ home old.reads) old new
  pub recorded : ok ≡ true → EachOf new.leaves (IsRecorded blocks (home_in old.reads))

-- the gate is opened over a home; whatever a cut leaves has that home
pub record OpensGate (blocks before : List ℕ) (ok : Bool) (old new : Seen) : Type 0 where
  pub ran : Ran 2 ok (λ i. home i ≡ Some before) old new
  pub opened : ok ≡ true → EachOf new.leaves (IsOpened blocks before)
  pub home_now : ok ≡ true → home_in new.reads ≡ before

-- a kept home block is written; whether the write succeeded or not, whatever a cut leaves has the home before, and the content is as before but for that block
pub record WritesHome (blocks before : List ℕ) (block : ℕ) (octets : List ℕ) (ok : Bool) (old new : Seen) : Type 0 where
  pub ran : Ran 1 ok (λ i. home i ≡ Some before) old new
  pub opened : EachOf new.leaves (IsOpened blocks before)
  pub outside : Torn (HOME + BLOCK * block) BLOCK old.reads new.reads
  pub others : (other : ℕ) → ¬ (other ≡ block) → block_of (home_in new.reads) other ≡ block_of (home_in old.reads) other
  pub home_now : ok ≡ true → home_in new.reads ≡ put (home_in old.reads) (BLOCK * block) octets
  pub content : ok ≡ true → new.reads ≡ put old.reads (HOME + BLOCK * block) octets

-- the gate is closed; whatever a cut leaves has the home before, or the one that was written; a success leaves the gate octet 00, and the content else as before
pub record ClosesGate (before : List ℕ) (ok : Bool) (old new : Seen) : Type 0 where
  pub ran : Ran 3 ok (λ i. (home i ≡ Some before) ⊎ (home i ≡ Some (home_in old.reads))) old new
  pub idle : ok ≡ true → IsIdle new
  pub home_now : ok ≡ true → home_in new.reads ≡ home_in old.reads
  pub gate : ok ≡ true → gate_of new.reads ≡ CLOSED
  pub content : ok ≡ true → new.reads ≡ put old.reads GATE (CLOSED ∷ [])
