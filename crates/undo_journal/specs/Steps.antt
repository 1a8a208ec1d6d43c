-- What the steps of the journal do, each a function of the crate.
use Rattle.std.specs.Prelude.{◌≡◌, ℕ, ◌+◌, ◌*◌, ◌/◌, ◌%◌, Bool, true, List, [], ◌∷◌, length, take, drop, Result, IfOk}
use Rattle.chip_port.specs.Seen.{Seen}
use Rattle.chip_port.specs.Rules.{Only, Torn, put, Untouched}
use Rattle.chip_port.specs.Runs.{Ran}
use Rattle.undo_journal.specs.declared.recovery.RecoverEnd.{RecoverEnd}
use Rattle.undo_journal.specs.declared.layout.TheConstants.{CLOSED}
use Rattle.undo_journal.specs.Home.{home, home_in, has_magic, is_open, gate_of, entries}
use Rattle.undo_journal.specs.States.{IsRecorded, IsOpenOver}
use Rattle.undo_journal.specs.Recover.{unfailed, IfForeign, IfNoMemory, WritesNothing, NoHome, Recovered}

-- an image that comes by this step from one that a cut may leave
abbrev pub After : (List ℕ → List ℕ → Type 0) → (List ℕ → Type 0) → List ℕ → Type 0
After step leaves i = (before : List ℕ) × leaves before × step before i

-- one block is copied
pub record Copies (from to : ℕ) (ok : Bool) (old new : Seen) : Type 0 where
  pub ran : Ran 2 ok (After (Torn to 256) old.leaves) old new
  pub done : ok ≡ true → new.reads ≡ put old.reads to (take 256 (drop from old.reads))

-- two octets for each number, big-endian
abbrev pub spelled : List ℕ → List ℕ
spelled [] = []
spelled (n ∷ ns) = n / 256 ∷ n % 256 ∷ spelled ns

-- the count and the numbers of these blocks
abbrev pub directory_of : List ℕ → List ℕ
directory_of blocks = spelled (length blocks ∷ blocks)

-- the directory of these blocks is written
pub record WritesDirectory (blocks : List ℕ) (ok : Bool) (old new : Seen) : Type 0 where
  pub ran : Ran 1 ok (After (Torn 512 (2 + 2 * length blocks)) old.leaves) old new
  pub done : ok ≡ true → new.reads ≡ put old.reads 512 (directory_of blocks)

-- the directory and the old blocks of an idle chip are written, and nothing else
pub record CopiesOld (blocks : List ℕ) (ok : Bool) (old new : Seen) : Type 0 where
  pub ran : Ran (2 * length blocks + 1) ok (Torn 512 173824 old.reads) old new
  pub content : ok ≡ true → IsRecorded blocks (home_in old.reads) new.reads

-- recovery has synced, found the magic, and read the gate
pub record Found (opened : Bool) (old new : Seen) : Type 0 where
  pub same : new.reads ≡ old.reads
  pub settled : Only new.reads new.leaves
  pub front : has_magic old.reads ≡ true
  pub gate : opened ≡ is_open old.reads

pub record Begins (result : Result Bool RecoverEnd) (old new : Seen) : Type 0 where
  pub ran : Ran 2 (unfailed result) old.leaves old new
  pub nothing : WritesNothing old new
  pub foreign : IfForeign result (NoHome old new)
  pub found : IfOk result (λ opened. Found opened old new)
  pub no_memory : IfNoMemory result (Untouched (λ t. t) old new)

-- all old blocks of a directory are put back
pub record PutsBack (directory copies before : List ℕ) (ok : Bool) (old new : Seen) : Type 0 where
  pub ran : Ran 1346 ok (IsOpenOver (entries directory) copies before) old new
  pub home_now : ok ≡ true → home_in new.reads ≡ before

-- the gate is open, and the content synced
pub record IsFound (s : Seen) : Type 0 where
  pub settled : Only s.reads s.leaves
  pub front : has_magic s.reads ≡ true
  pub opened : is_open s.reads ≡ true

-- the home behind the open gate is put back
pub record RollsBack (result : Result (Unit {0}) RecoverEnd) (old new : Seen) : Type 0 where
  pub ran : Ran 1350 (unfailed result) (λ i. home i ≡ home old.reads) old new
  pub foreign : IfForeign result (NoHome old new)
  pub no_memory : IfNoMemory result ⊥
  pub done : IfOk result (λ _. Recovered old new)
  pub gate : IfOk result (λ _. gate_of new.reads ≡ CLOSED)
