-- Settling a card on a bench: power cycles, until the card is lit or so many tries ended by a fault.
use Rattle.std.specs.Prelude.{◌≡◌, ◌⊎◌, ℕ, ◌+◌, ◌*◌, ◌-◌, ◌^◌, ◌≤◌, min, max, List, Option, Some}
use Rattle.chip_port.specs.Seen.{Seen, Tally}
use Rattle.chip_port.specs.Rules.{Same, Keeps}
use Rattle.small_card.specs.Cards.{FullCard}
use Rattle.card_store.specs.Standing.{Stands, IsSettled}
use Rattle.card_store.specs.Loading.{StandsAs}
use Rattle.euicc_core.specs.declared.ends.SettleEnd.{SettleEnd}
use Rattle.euicc_core.specs.declared.ends.SettleEnd.TheVariants.{Lit, Spent, Unrecognised, NoMemory}

-- a count rose by at least so many, or stands at its last value
abbrev pub RoseBy : ℕ → ℕ → ℕ → Type 0
RoseBy n before now = min (before + n) (2 ^ 64 - 1) ≤ now

-- so many more; a count stands still at the end of its type
abbrev pub raised : ℕ → ℕ → ℕ
raised n count = max count (min (count + n) (2 ^ 64 - 1))

-- cuts and breaks together rose by at least so many, or one of them stands at its last value
pub record RoseTogether (n : ℕ) (old new : Tally) : Type 0 where
  pub cuts : ℕ
  pub breaks : ℕ
  pub enough : n ≤ cuts + breaks
  pub cuts_rose : RoseBy cuts old.cuts new.cuts
  pub breaks_rose : RoseBy breaks old.breaks new.breaks

-- the card that was lit has P
abbrev pub IfLit : SettleEnd → (Option FullCard → Type 0) → Type 0
IfLit (Lit held) P = P held
IfLit Spent P = Unit {0}
IfLit Unrecognised P = Unit {0}
IfLit NoMemory P = Unit {0}

-- on every bench: the count of faults never falls, and tries are spent only where each of them raised it
pub record HasCauseOfSettle (tries : ℕ) (end : SettleEnd) (old new : Seen) : Type 0 where
  pub told : new.told ≡ old.told
  pub monotone : old.faults ≤ new.faults
  pub spent : end ≡ Spent → RoseBy tries old.faults new.faults

-- what the tries cost: no plan is made, and each try takes at most 10,000 calls and is spent only by a cut or a break
pub record Costs (tries : ℕ) (end : SettleEnd) (old new : Tally) : Type 0 where
  pub plans : new.plans ≡ old.plans
  pub more : old.uses ≤ new.uses
  pub most : new.uses ≤ old.uses + 10000 * tries
  pub cuts : old.cuts ≤ new.cuts
  pub breaks : old.breaks ≤ new.breaks
  pub spent : end ≡ Spent → RoseTogether tries old new

-- what the last power cycle before the n-th answer gave stands for this card
pub record WokeAs (n : ℕ) (card : FullCard) (s : Seen) : Type 0 where
  pub image : List ℕ
  pub woke : s.marks.woke n ≡ Some image
  pub stands : Stands card image

-- what the last power cycle before the n-th answer gave stands for no card
pub record WokeAsNone (n : ℕ) (s : Seen) : Type 0 where
  pub image : List ℕ
  pub woke : s.marks.woke n ≡ Some image
  pub none : (d : FullCard) → Stands d image → ⊥

-- no power cycle succeeded: each try was one break, and nothing else changed
pub record IsUnwoken (tries : ℕ) (old new : Seen) : Type 0 where
  pub keeps : Keeps old new
  pub left : (k : ℕ) → Same (old.left k) (new.left k)
  pub tally : new.tally ≡ record old.tally { breaks = raised tries old.tally.breaks }

-- the first power cycle that succeeded gave one of the images that a cut could leave, the last one gave this one, and it stands for whatever card the first one stood for
pub record IsWoken (first last : List ℕ) (old new : Seen) : Type 0 where
  pub was : old.leaves first
  pub woke : new.marks.woke (old.marks.answers + 1) ≡ Some last
  pub stands : StandsAs first last

-- a power cycle succeeded, but no answer: what a cut left since then stands for whatever card was woken first
pub record IsUnlit (old new : Seen) : Type 0 where
  pub first : List ℕ
  pub last : List ℕ
  pub woken : IsWoken first last old new
  pub answers : new.marks.answers ≡ old.marks.answers
  pub leaves : (i : List ℕ) → new.leaves i → StandsAs first i
  pub keeps : (k : ℕ) (i : List ℕ) → old.left k i → new.left k i
  pub adds : (k : ℕ) (i : List ℕ) → new.left k i → old.left k i ⊎ ((k ≡ old.marks.answers) × StandsAs first i)

-- the card that was woken last answered, and since then a cut leaves it alone
pub record IsRelit (held : Option FullCard) (old new : Seen) : Type 0 where
  pub first : List ℕ
  pub last : List ℕ
  pub woken : IsWoken first last old new
  pub card : FullCard
  pub lit : held ≡ Some card
  pub stood : Stands card last
  pub settled : IsSettled card new
  pub answers : new.marks.answers ≡ old.marks.answers + 1
  pub keeps : (k : ℕ) (i : List ℕ) → old.left k i → new.left k i
  pub adds : (k : ℕ) (i : List ℕ) → new.left k i → old.left k i ⊎ (((k ≡ old.marks.answers) × StandsAs first i) ⊎ ((k ≡ old.marks.answers + 1) × Stands card i))

-- what the power cycles of so many tries made of a bench, whatever stood there
abbrev pub Cycles : ℕ → SettleEnd → Seen → Seen → Type 0
Cycles tries (Lit held) old new = IsRelit held old new
Cycles tries Spent old new = IsUnwoken tries old new ⊎ IsUnlit old new
Cycles tries Unrecognised old new = IsUnlit old new × WokeAsNone (old.marks.answers + 1) new
Cycles tries NoMemory old new = IsUnlit old new

-- what was woken last stands for the card that is lit, and for no card exactly where none is recognised; a fault and want of memory leave it open
abbrev pub Recognises : SettleEnd → Seen → Seen → Type 0
Recognises (Lit held) old new = (card : FullCard) × (held ≡ Some card) × WokeAs (old.marks.answers + 1) card new
Recognises Spent old new = Unit {0}
Recognises Unrecognised old new = WokeAsNone (old.marks.answers + 1) new
Recognises NoMemory old new = Unit {0}

-- every image that a cut may leave stands for some card
abbrev pub StandsForSome : Seen → Type 0
StandsForSome s = (i : List ℕ) → s.leaves i → (d : FullCard) × Stands d i

-- the card that was woken is lit, is one that a cut could leave at entry, and is all that stands there since the answer
pub record IsBack (held : Option FullCard) (old new : Seen) : Type 0 where
  pub card : FullCard
  pub lit : held ≡ Some card
  pub woke : WokeAs (old.marks.answers + 1) card new
  pub settled : IsSettled card new
  pub stood : (i : List ℕ) × old.leaves i × Stands card i
  pub answers : new.marks.answers ≡ old.marks.answers + 1
  pub before : (i : List ℕ) → new.left old.marks.answers i → old.left old.marks.answers i ⊎ Stands card i
  pub since : (i : List ℕ) → new.left (old.marks.answers + 1) i → Stands card i

-- the image stands for the card that was woken
abbrev pub IsOfWoken : ℕ → Seen → List ℕ → Type 0
IsOfWoken n s image = (d : FullCard) × WokeAs n d s × Stands d image

-- nothing was answered: whatever a cut leaves, now or at any moment of the call, was there at entry or stands for the card that was woken
pub record IsStillOff (old new : Seen) : Type 0 where
  pub answers : new.marks.answers ≡ old.marks.answers
  pub leaves : (i : List ℕ) → new.leaves i → old.leaves i ⊎ IsOfWoken (old.marks.answers + 1) new i
  pub before : (i : List ℕ) → new.left old.marks.answers i → old.left old.marks.answers i ⊎ IsOfWoken (old.marks.answers + 1) new i

-- how settling ends where every image stood for some card
abbrev pub Returns : SettleEnd → Seen → Seen → Type 0
Returns (Lit held) old new = IsBack held old new
Returns Spent old new = IsStillOff old new
Returns Unrecognised old new = ⊥
Returns NoMemory old new = IsStillOff old new
