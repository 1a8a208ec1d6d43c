-- Loading the card that stands on a chip.
use Rattle.std.specs.Prelude.{◌≡◌, ◌⊎◌, ℕ, true, false, List, Result, Ok, Err}
use Rattle.iot_bytes.specs.declared.memory.ReadError.{ReadError}
use Rattle.iot_bytes.specs.declared.memory.ReadError.TheVariants.{Malformed, NoMemory}
use Rattle.chip_port.specs.Seen.{Seen}
use Rattle.chip_port.specs.Runs.{Ran}
use Rattle.undo_journal.specs.Home.{home_in}
use Rattle.undo_journal.specs.declared.recovery.RecoverEnd.{RecoverEnd}
use Rattle.undo_journal.specs.declared.recovery.RecoverEnd.TheVariants as recovery
use Rattle.small_card.specs.Cards.{FullCard}
use Rattle.home_codec.specs.FullCards.{full_card}
use Rattle.home_codec.specs.Homes.{IsHomeOf}
use Rattle.home_codec.specs.declared.card.Card.{Card}
use Rattle.card_store.specs.declared.ends.LoadEnd.{LoadEnd}
use Rattle.card_store.specs.declared.ends.LoadEnd.TheVariants as load
use Rattle.card_store.specs.Standing.{Stands, IsSettled}
use Rattle.card_store.specs.Looking.{Looks}

-- the image stands for whatever card that one stood for
abbrev pub StandsAs : List ℕ → List ℕ → Type 0
StandsAs before image = (d : FullCard) → Stands d before → Stands d image

-- a cut could leave the image before, or it stands for what was read before
abbrev pub IsAsBefore : Seen → List ℕ → Type 0
IsAsBefore old image = old.leaves image ⊎ StandsAs old.reads image

-- the content stood for this card, and the chip is settled on it
pub record IsLoaded (d : FullCard) (old new : Seen) : Type 0 where
  pub stood : Stands d old.reads
  pub settled : IsSettled d new

-- nothing that the chip stood for is lost
pub record IsKept (old new : Seen) : Type 0 where
  pub reads : StandsAs old.reads new.reads
  pub settled : (d : FullCard) → IsSettled d old → IsSettled d new

-- how a load ends
abbrev pub LoadEnds : Result Card LoadEnd → Seen → Seen → Type 0
LoadEnds (Ok card) old new = Ran 6000 true (IsAsBefore old) old new × IsLoaded (full_card card) old new
LoadEnds (Err load.Failed) old new = Ran 6000 false (IsAsBefore old) old new
LoadEnds (Err load.Unrecognised) old new = Ran 6000 true (IsAsBefore old) old new × ((d : FullCard) → Stands d old.reads → ⊥)
LoadEnds (Err load.NoMemory) old new = Ran 6000 true (IsAsBefore old) old new × IsKept old new

-- recovery and reading: what a cut may have left since the last answer was there at entry, or stands for the card that was read
pub record Loads (result : Result Card LoadEnd) (old new : Seen) : Type 0 where
  pub end : LoadEnds result old new
  pub adds : (k : ℕ) (i : List ℕ) → new.left k i → old.left k i ⊎ ((k ≡ old.marks.answers) × StandsAs old.reads i)

-- the home was read, or a call failed, or memory ran out
abbrev pub ReadsHome : Result (List ℕ) LoadEnd → Seen → Seen → Type 0
ReadsHome (Ok octets) old new = Looks 673 old new × (octets ≡ home_in old.reads)
ReadsHome (Err load.Failed) old new = Ran 673 false old.leaves old new
ReadsHome (Err load.Unrecognised) old new = ⊥
ReadsHome (Err load.NoMemory) old new = Looks 673 old new

-- the octets are the home of the card, or of none
abbrev pub ReadsFields : Result Card LoadEnd → List ℕ → Type 0
ReadsFields (Ok card) blocks = IsHomeOf (full_card card) blocks
ReadsFields (Err load.Failed) blocks = ⊥
ReadsFields (Err load.Unrecognised) blocks = (d : FullCard) → IsHomeOf d blocks → ⊥
ReadsFields (Err load.NoMemory) blocks = Unit {0}

-- an idle chip was read
abbrev pub ReadsCard : Result Card LoadEnd → Seen → Seen → Type 0
ReadsCard (Ok card) old new = Looks 673 old new × ReadsFields (Ok card) (home_in old.reads)
ReadsCard (Err load.Failed) old new = Ran 673 false old.leaves old new
ReadsCard (Err load.Unrecognised) old new = Looks 673 old new × ReadsFields (Err load.Unrecognised) (home_in old.reads)
ReadsCard (Err load.NoMemory) old new = Looks 673 old new

-- a load whose recovery or reading ended so
abbrev pub of_recovery : RecoverEnd → LoadEnd
of_recovery recovery.Failed = load.Failed
of_recovery recovery.Foreign = load.Unrecognised
of_recovery recovery.NoMemory = load.NoMemory

abbrev pub of_reading : ReadError → LoadEnd
of_reading Malformed = load.Unrecognised
of_reading NoMemory = load.NoMemory
