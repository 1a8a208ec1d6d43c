-- What a unit is about to write, and what writing it does to the chip.
use Rattle.std.specs.Prelude.{◌≡◌, ◌⊎◌, ℕ, ◌+◌, ◌*◌, ◌≤◌, Bool, true, false, List, length, Some, Result, Ok, Err}
use Rattle.chip_port.specs.Seen.{Seen}
use Rattle.chip_port.specs.Rules.{Untouched}
use Rattle.chip_port.specs.Runs.{Ran}
use Rattle.undo_journal.specs.declared.layout.TheConstants.{BLOCK, BLOCKS}
use Rattle.undo_journal.specs.Home.{home, home_in, put_back, rises}
use Rattle.undo_journal.specs.States.{IsIdle, IsOpened, EachOf}
use Rattle.small_card.specs.Cards.{FullCard}
use Rattle.small_card.specs.Valid.{IsValid}
use Rattle.home_codec.specs.Homes.{HasFields}
use Rattle.card_store.specs.declared.ends.StageError.{StageError}
use Rattle.card_store.specs.declared.ends.StageError.TheVariants as stage
use Rattle.card_store.specs.Standing.{StandsForEither, IsSettled}
use Rattle.card_store.specs.Changed.{changed}
use Rattle.card_store.specs.Looking.{Looks}
use Rattle.card_store.specs.Slots.{HomesKeepSlots}

-- the blocks to be written, their octets one block after the other, and the card that they make
pub record Plan : Type 0 where
  pub blocks : List ℕ
  pub octets : List ℕ
  pub card : FullCard

-- so many block numbers, which rise, as many blocks of octets, and a valid card
pub record IsPlan (p : Plan) : Type 0 where
  pub few : length p.blocks ≤ BLOCKS
  pub rising : rises p.blocks ≡ true
  pub size : length p.octets ≡ BLOCK * length p.blocks
  pub valid : IsValid p.card

-- a home with the blocks of the plan
abbrev pub planned : Plan → List ℕ → List ℕ
planned p before = put_back p.blocks p.octets before

-- the chip is idle, the plan makes its card of the home, its blocks are those that change, and results keep their slots
pub record IsStagedOn (p : Plan) (s : Seen) : Type 0 where
  pub idle : IsIdle s
  pub makes : HasFields p.card (planned p (home_in s.reads))
  pub each : p.blocks ≡ changed (home_in s.reads) (planned p (home_in s.reads))
  pub slots : HomesKeepSlots (home_in s.reads) (planned p (home_in s.reads))

-- the spare calls and octets of a unit, with one call left for the answer
pub record HasRoom (p : Plan) (s : Seen) : Type 0 where
  pub calls : 2 * length p.blocks + 8 ≤ s.spare.calls
  pub octets : 514 * length p.blocks + 4 ≤ s.spare.octets

-- how staging ends: nothing was written
abbrev pub Stages : FullCard → Result Plan StageError → Seen → Seen → Type 0
Stages c (Ok p) old new = Looks 3000 old new × IsSettled c new × IsStagedOn p new
Stages c (Err stage.Failed) old new = Ran 3000 false old.leaves old new
Stages c (Err stage.NoMemory) old new = Looks 3000 old new × IsSettled c new

-- the home blocks are written; whatever a cut leaves has the home before
pub record WritesBlocks (kept before blocks octets : List ℕ) (ok : Bool) (old new : Seen) : Type 0 where
  pub ran : Ran (length blocks) ok (λ i. home i ≡ Some before) old new
  pub opened : EachOf new.leaves (IsOpened kept before)
  pub home_now : ok ≡ true → home_in new.reads ≡ put_back blocks octets (home_in old.reads)

-- a unit of the journal: whatever a cut leaves has the home before or the one with the blocks written; after a success there is the second alone
pub record Rewrites (blocks octets : List ℕ) (ok : Bool) (old new : Seen) : Type 0 where
  pub ran : Ran (3 * length blocks + 7) ok (λ i. (home i ≡ home old.reads) ⊎ (home i ≡ Some (put_back blocks octets (home_in old.reads)))) old new
  pub idle : ok ≡ true → IsIdle new
  pub home_now : ok ≡ true → home_in new.reads ≡ put_back blocks octets (home_in old.reads)

-- a unit: whatever a cut leaves at any moment stands for the old card or the new one; after a success the chip is settled on the new, with the blocks of the plan in its home, where results kept their slots
pub record Commits (c : FullCard) (p : Plan) (ok : Bool) (old new : Seen) : Type 0 where
  pub ran : Ran 4000 ok (StandsForEither c p.card) old new
  pub settled : ok ≡ true → IsSettled p.card new
  pub home_now : ok ≡ true → home_in new.reads ≡ planned p (home_in old.reads)
  pub slots : ok ≡ true → HomesKeepSlots (home_in old.reads) (home_in new.reads)

-- room was made, and nothing else changed
abbrev pub Readies : Result Plan StageError → Seen → Seen → Type 0
Readies (Ok p) old new = Untouched (λ t. t) old new
Readies (Err stage.Failed) old new = ⊥
Readies (Err stage.NoMemory) old new = Untouched (λ t. t) old new
