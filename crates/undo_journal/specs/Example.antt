-- A unit that keeps all blocks and writes two of them: the statement of an example.
use Rattle.std.specs.Prelude.{◌≡◌, ◌⊎◌, ℕ, Bool, true, List, Some}
use Rattle.chip_port.specs.Seen.{Seen}
use Rattle.chip_port.specs.Rules.{put}
use Rattle.chip_port.specs.Runs.{Ran}
use Rattle.undo_journal.specs.Home.{home, home_in}
use Rattle.undo_journal.specs.States.{IsIdle}

-- a home with these octets as its first and its last block
abbrev pub with_two : List ℕ → List ℕ → List ℕ → List ℕ
with_two first last blocks = put (put blocks 0 first) 172032 last

-- a cut at any moment leaves the home before, or the one with both blocks; after a success there is the second alone
pub record WritesTwo (first last : List ℕ) (ok : Bool) (old new : Seen) : Type 0 where
  pub ran : Ran 1355 ok (λ i. (home i ≡ home old.reads) ⊎ (home i ≡ Some (with_two first last (home_in old.reads)))) old new
  pub idle : ok ≡ true → IsIdle new
  pub home_now : ok ≡ true → home new.reads ≡ Some (with_two first last (home_in old.reads))
