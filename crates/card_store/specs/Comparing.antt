-- Finding the blocks that change, from the first to the last.
use Rattle.std.specs.Prelude.{◌≡◌, ℕ, ◌+◌, ◌*◌, ◌≤◌, false, List, [], ◌∷◌, ◌++◌, length, take, drop, get_or, Option, None, Result, Ok, Err}
use Rattle.chip_port.specs.Seen.{Seen}
use Rattle.chip_port.specs.Rules.{put}
use Rattle.chip_port.specs.Runs.{Ran}
use Rattle.undo_journal.specs.declared.layout.TheConstants.{BLOCK, HOME_SIZE}
use Rattle.undo_journal.specs.Home.{put_back, block_of}
use Rattle.small_card.specs.Cards.{FullCard}
use Rattle.small_card.specs.declared.types.PackageResult.{PackageResult}
use Rattle.home_codec.specs.Homes.{AreSlots, HasFields, fields}
use Rattle.card_store.specs.declared.ends.StageError.{StageError}
use Rattle.card_store.specs.declared.ends.StageError.TheVariants as stage
use Rattle.card_store.specs.declared.changes.Changes.{Changes}
use Rattle.card_store.specs.Changed.{changed}
use Rattle.card_store.specs.Looking.{Looks}
use Rattle.card_store.specs.Slots.{HomesKeepSlots}

-- block numbers from this one on, which rise, and are below that one
abbrev pub Between : ℕ → List ℕ → ℕ → Type 0
Between first [] end = first ≤ end
Between first (b ∷ bs) end = (first ≤ b) × Between (b + 1) bs end

-- no block of these is what stands in the home
abbrev pub AllDiffer : List ℕ → List ℕ → List ℕ → Type 0
AllDiffer [] octets home = Unit {0}
AllDiffer (b ∷ bs) octets home = (take BLOCK octets ≡ block_of home b → ⊥) × AllDiffer bs (drop BLOCK octets) home

-- rising blocks in front of this one, and the octets of each
pub record IsListed (c : Changes) (end : ℕ) : Type 0 where
  pub blocks : Between 0 c.blocks end
  pub size : length c.octets ≡ BLOCK * length c.blocks

-- the blocks in front of this one were compared: those that change make the new home of the old one
pub record IsCompared (c : Changes) (end : ℕ) (old new : List ℕ) : Type 0 where
  pub listed : IsListed c end
  pub makes : put_back c.blocks c.octets old ≡ new
  pub differ : AllDiffer c.blocks c.octets old

-- at most n reads of the chip, and nothing is written, or a read failed
abbrev pub Tries : {T : Type 0} → ℕ → Result T StageError → Seen → Seen → Type 0
Tries n (Ok x) old new = Looks n old new
Tries n (Err stage.Failed) old new = Ran n false old.leaves old new
Tries n (Err stage.NoMemory) old new = Looks n old new

-- after the blocks from this one to that one were compared there may be more
abbrev pub Lists : ℕ → ℕ → Changes → Changes → Type 0
Lists first end before after = IsListed before first → IsListed after end

-- after these octets were compared with what stands from a block on, they are in the new home
abbrev pub Compared : ℕ → ℕ → List ℕ → Changes → Changes → List ℕ → Type 0
Compared first end octets before after old =
    (new : List ℕ) → length old ≡ HOME_SIZE → IsCompared before first old new → IsCompared after end old (put new (BLOCK * first) octets)

-- what stands in a slot
abbrev pub place_in : List (Option PackageResult) → ℕ → Option PackageResult
place_in places slot = get_or places slot None

-- the fields of the card stand, and the places of the first n slots
pub record HasFront (f : FullCard) (places : List (Option PackageResult)) (n : ℕ) (home : List ℕ) : Type 0 where
  pub area : List ℕ
  pub parts : home ≡ fields f ++ area
  pub fields_len : length (fields f) ≡ 6400
  pub size : length area ≡ 20736 * 8
  pub stand : AreSlots (take n places) (take (20736 * n) area)

-- so far the changes make a home with the fields of the card and the places of the first n slots
pub record Fronted (f : FullCard) (places : List (Option PackageResult)) (n : ℕ) (c : Changes) (old : List ℕ) : Type 0 where
  pub home : List ℕ
  pub compared : IsCompared c (25 + 81 * n) old home
  pub front : HasFront f places n home

-- results keep their slots in the home that the changes make
abbrev pub KeepsAll : Changes → List ℕ → Type 0
KeepsAll c old = HomesKeepSlots old (put_back c.blocks c.octets old)

-- the changes make the home of the card, and their blocks are those that change
pub record IsFound (f : FullCard) (c : Changes) (old : List ℕ) : Type 0 where
  pub fields : HasFields f (put_back c.blocks c.octets old)
  pub each : c.blocks ≡ changed old (put_back c.blocks c.octets old)
