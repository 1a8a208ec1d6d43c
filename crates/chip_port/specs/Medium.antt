-- A medium as its calls see it.
use Rattle.std.specs.Prelude.{◌≡◌, ◌⊎◌, ℕ, ◌+◌, ◌-◌, ◌≤◌, Bool, ◌&&◌, leb, List, [], ◌∷◌, length, take, drop, get_or, true}
use Rattle.chip_port.specs.declared.chip.TheConstants.{CHIP_SIZE}
use Rattle.chip_port.specs.declared.medium.Record.{Record}
use Rattle.chip_port.specs.declared.medium.Record.TheVariants.{Write, Sync, Answer, Cut, PowerCycle}
use Rattle.chip_port.specs.Past.{Past, wrote, did_sync, did_answer, was_cut, woke_as, images, fits}

-- the history, and how many records and octets need no more memory
pub record MediumSeen : Type 0 where
  pub past : List Past
  pub calls : ℕ
  pub octets : ℕ

-- the records, the newest first, with the octets of each write, which end the octets written so far
abbrev pub past_of : List Record → List ℕ → List Past
past_of [] octets = []
past_of (Write at n kept ∷ older) octets = wrote at n (drop (length octets - kept) octets) ∷ past_of older (take (length octets - kept) octets)
past_of (Sync ∷ older) octets = did_sync ∷ past_of older octets
past_of (Answer cuts breaks ∷ older) octets = did_answer cuts breaks ∷ past_of older octets
past_of (Cut tear ∷ older) octets = was_cut tear ∷ past_of older octets
past_of (PowerCycle survives ∷ older) octets = woke_as survives ∷ past_of older octets

-- these are the images after all that
pub record IsKept (past : List Past) (content synced junk : List ℕ) : Type 0 where
  pub images_are : images CHIP_SIZE past ≡ record { content = content; synced = synced; junk = junk }
  pub inside : fits CHIP_SIZE past ≡ true
  pub content_size : length content ≡ CHIP_SIZE
  pub synced_size : length synced ≡ CHIP_SIZE
  pub junk_size : length junk ≡ CHIP_SIZE

-- each range that was written is inside
abbrev pub all_fit : ℕ → List Record → Bool
all_fit size [] = true
all_fit size (Write at n kept ∷ older) = leb (at + n) size && all_fit size older
all_fit size (Sync ∷ older) = all_fit size older
all_fit size (Answer cuts breaks ∷ older) = all_fit size older
all_fit size (Cut tear ∷ older) = all_fit size older
all_fit size (PowerCycle survives ∷ older) = all_fit size older

-- no range that was written since the last sync or power cycle has this octet
abbrev pub IsSettled : ℕ → List Record → Type 0
IsSettled i [] = Unit {0}
IsSettled i (Write at n kept ∷ older) = ((i + 1 ≤ at) ⊎ (at + n ≤ i)) × IsSettled i older
IsSettled i (Sync ∷ older) = Unit {0}
IsSettled i (Answer cuts breaks ∷ older) = IsSettled i older
IsSettled i (Cut tear ∷ older) = IsSettled i older
IsSettled i (PowerCycle survives ∷ older) = Unit {0}

-- two images agree wherever nothing was written since the last sync
pub record Agree (size : ℕ) (records : List Record) (one two : List ℕ) : Type 0 where
  pub fit : all_fit size records ≡ true
  pub one_size : length one ≡ size
  pub two_size : length two ≡ size
  pub same : (i : ℕ) → IsSettled i records → get_or one i 0 ≡ get_or two i 0
